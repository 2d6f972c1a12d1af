use Rattle.std.proofs.Common.{◌≡◌, take}
use Rattle.tree_words.specs.Reading.{values_taken}
use Rattle.tree_words.proofs.track.values_taken.Given as goal

abbrev pub invariant-loop-value : goal.invariant-loop-value
invariant-loop-value l = l.list.items ≡ values_taken l.values (take l.value-index l.taken)
