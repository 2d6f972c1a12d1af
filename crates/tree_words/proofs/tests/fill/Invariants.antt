use Rattle.std.proofs.Common.{◌≡◌, length}
use Rattle.tree_words.proofs.tests.fill.Given as goal

abbrev pub invariant-loop-index : goal.invariant-loop-index
invariant-loop-index l = length l.places ≡ length l.fn.places
