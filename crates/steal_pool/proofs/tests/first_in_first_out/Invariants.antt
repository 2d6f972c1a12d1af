use Rattle.std.proofs.Common.{◌≡◌, length}
use Rattle.steal_pool.specs.Seats.{AreSeatsOf}
use Rattle.steal_pool.proofs.tests.first_in_first_out.Given as goal

abbrev pub invariant-loop-number : goal.invariant-loop-number
invariant-loop-number g l = AreSeatsOf l.pool l.seats.items × (length l.seats.items ≡ 3)

abbrev pub invariant-loop-turn : goal.invariant-loop-turn
invariant-loop-turn g l = AreSeatsOf l.pool l.seats.items × (length l.seats.items ≡ 3)
