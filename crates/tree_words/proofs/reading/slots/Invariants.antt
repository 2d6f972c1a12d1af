use Rattle.tree_words.specs.Reading.{reached}
use Rattle.tree_words.proofs.Listing.{Slots}
use Rattle.tree_words.proofs.reading.slots.Given as goal

abbrev pub invariant-loop-node : goal.invariant-loop-node
invariant-loop-node l = Slots (reached l.reach l.values) l.list.items l.next l.node
