use Rattle.replay_law.proofs.Determined.{determined}
use Rattle.replay_law.proofs.laws.replays_are_determined.Goals as goal

pub returns : goal.returns
returns c = determined c.statuses_are_unique.ensures c.names_are_unique.ensures
