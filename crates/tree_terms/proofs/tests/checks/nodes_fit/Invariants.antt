use Rattle.std.proofs.Common.{◌≡◌}
use Rattle.tree_terms.specs.Checks.{nodes_fit}
use Rattle.tree_terms.proofs.tests.checks.nodes_fit.Given as goal

abbrev pub invariant-loop-place : goal.invariant-loop-place
invariant-loop-place l = l.all ≡ nodes_fit l.q l.terms.nodes l.node l.place
