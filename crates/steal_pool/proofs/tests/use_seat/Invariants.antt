use Rattle.std.proofs.Common.{◌≡◌}
use Rattle.steal_pool.specs.Seats.{IsSeatOf, number_of}
use Rattle.steal_pool.proofs.tests.use_seat.Given as goal

abbrev pub invariant-loop-turn : goal.invariant-loop-turn
invariant-loop-turn l = IsSeatOf l.pool l.seat × (number_of l.seat ≡ number_of l.initial.seat)
