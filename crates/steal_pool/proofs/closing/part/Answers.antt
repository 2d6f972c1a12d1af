use Rattle.steal_pool.proofs.Moves.{merges_at}
use Rattle.steal_pool.proofs.closing.part.Goals as goal

pub absorb-requires-clause-rule : goal.absorb-requires-clause-rule
absorb-requires-clause-rule c = merges_at _ _ _ _ c.requires.own.0 c.requires.own.1
