use Rattle.std.proofs.Common.{◌≡◌, length}
use Rattle.tree_words.proofs.tests.table.Given as goal

abbrev pub invariant-loop-node : goal.invariant-loop-node
invariant-loop-node l = length l.places ≡ length l.q.tree
