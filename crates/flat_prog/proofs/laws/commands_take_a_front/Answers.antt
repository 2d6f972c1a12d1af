use Rattle.flat_prog.proofs.Taking.{commands_take}
use Rattle.flat_prog.proofs.laws.commands_take_a_front.Goals as goal

pub returns : goal.returns
returns c = commands_take
