use Rattle.steal_pool.proofs.Counts.{Counted}
use Rattle.steal_pool.proofs.closing.counted.Given as goal

abbrev pub invariant-loop-seat : goal.invariant-loop-seat
invariant-loop-seat l = Counted l.seats.items l.seat-index l.put l.popped
