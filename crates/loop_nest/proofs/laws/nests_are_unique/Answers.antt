use Rattle.loop_nest.proofs.Entering.{unique}
use Rattle.loop_nest.proofs.laws.nests_are_unique.Goals as goal

pub returns : goal.returns
returns c = unique
