use Rattle.std.proofs.Common.{arith}
use Rattle.steal_pool.proofs.Moves.{steals}
use Rattle.steal_pool.proofs.thief.steal_by.Goals as goal

pub steal_as-requires-clause-takes : goal.steal_as-requires-clause-takes
steal_as-requires-clause-takes c = steals _ _ (omega (arith, c.requires.1))
