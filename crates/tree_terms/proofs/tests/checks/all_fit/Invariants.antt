use Rattle.std.proofs.Common.{◌≡◌}
use Rattle.tree_terms.specs.Checks.{all_fit}
use Rattle.tree_terms.proofs.tests.checks.all_fit.Given as goal

abbrev pub invariant-loop-node : goal.invariant-loop-node
invariant-loop-node l = l.all ≡ all_fit l.q l.terms.nodes l.node
