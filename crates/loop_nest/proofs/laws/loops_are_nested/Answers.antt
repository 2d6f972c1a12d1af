use Rattle.loop_nest.proofs.Entering.{nested}
use Rattle.loop_nest.proofs.laws.loops_are_nested.Goals as goal

pub returns : goal.returns
returns c = nested
