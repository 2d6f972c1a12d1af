use Rattle.call_tree.specs.Trees.{IsPartTree}
use Rattle.tree_tests.proofs.growing.grown.Given as goal

abbrev pub invariant-loop-round : goal.invariant-loop-round
invariant-loop-round l = IsPartTree l.flat l.entry l.bound l.tree
