use Rattle.std.proofs.Common.{take}
use Rattle.loop_nest.specs.Walks.{Finds}
use Rattle.loop_nest.proofs.walk.find_all.Given as goal

abbrev pub invariant-loop-block : goal.invariant-loop-block
invariant-loop-block l = Finds (take l.block-index l.blocks) l.initial.walk.found.items l.walk.found.items l.initial.walk.seen.items l.walk.seen.items
