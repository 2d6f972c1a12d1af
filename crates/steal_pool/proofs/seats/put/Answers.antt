use Rattle.std.proofs.Common.{arith}
use Rattle.steal_pool.proofs.Moves.{puts_at}
use Rattle.steal_pool.proofs.seats.put.Goals as goal

pub push_as-requires-clause-pushes : goal.push_as-requires-clause-pushes
push_as-requires-clause-pushes c = puts_at _ _ _ c.requires.0.port (omega (arith, c.requires.0.put, c.if-seat-ge-MOST.false))
