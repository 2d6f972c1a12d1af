use Rattle.steal_pool.proofs.Moves.{forks_at}
use Rattle.steal_pool.proofs.build.meet.Goals as goal

pub another-theirs-requires : goal.another-theirs-requires
another-theirs-requires c = forks_at _ _ c.requires.ports.0 c.requires.old

pub another-mine-requires : goal.another-mine-requires
another-mine-requires c = forks_at _ _ c.requires.ports.1 c.requires.new
