use Rattle.std.proofs.Common.{◌≡◌, drop}
use Rattle.hy_term.specs.TermSorts.{sorts, sorts_onto}
use Rattle.tree_terms.proofs.tests.checks.sorts_of.Given as goal

abbrev pub invariant-loop-node : goal.invariant-loop-node
invariant-loop-node l = sorts_onto l.known (drop l.node-index l.nodes) ≡ sorts l.nodes
