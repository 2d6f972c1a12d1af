use Rattle.steal_pool.proofs.Moves.{pops_at}
use Rattle.steal_pool.proofs.seats.pop.Goals as goal

pub pop_as-requires-clause-fifo : goal.pop_as-requires-clause-fifo
pop_as-requires-clause-fifo c = λ _. pops_at _ _ c.requires.0.port
