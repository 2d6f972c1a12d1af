use Rattle.src_law.proofs.Asking.{each_ask_can_be_met as can_be_met}
use Rattle.src_law.proofs.laws.each_ask_can_be_met.Goals as goal

pub returns : goal.returns
returns c = can_be_met
