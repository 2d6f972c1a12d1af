use Rattle.loop_nest.proofs.Entering.{entered-at-heads}
use Rattle.loop_nest.proofs.laws.loops_are_entered_at_heads.Goals as goal

pub returns : goal.returns
returns c = entered-at-heads
