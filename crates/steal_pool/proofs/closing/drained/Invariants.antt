use Rattle.std.proofs.Common.{length}
use Rattle.steal_pool.proofs.Drains.{Drained}
use Rattle.steal_pool.proofs.closing.drained.Given as goal

abbrev pub invariant-loop-seat : goal.invariant-loop-seat
invariant-loop-seat l = Drained l.initial.seats.items l.seats.items l.left

abbrev pub decreases-loop-seat : goal.decreases-loop-seat
decreases-loop-seat l = length l.seats.items
