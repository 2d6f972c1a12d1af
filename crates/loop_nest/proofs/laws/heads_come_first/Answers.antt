use Rattle.loop_nest.proofs.Entering.{heads-first}
use Rattle.loop_nest.proofs.laws.heads_come_first.Goals as goal

pub returns : goal.returns
returns c = heads-first
