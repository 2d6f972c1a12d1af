use Rattle.std.proofs.Common.{◌≡◌, map, take}
use Rattle.loop_extract.specs.Ascents.{head_at}
use Rattle.loop_extract.proofs.spans.numbers_of.Given as goal

abbrev pub invariant-loop-head : goal.invariant-loop-head
invariant-loop-head l = l.numbers ≡ map head_at (take l.head-index l.loops)
