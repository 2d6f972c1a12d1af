use Rattle.hydra_words.proofs.EitherOrder.{either_order}
use Rattle.hydra_words.proofs.laws.options_stand_in_either_order.Goals as goal

pub returns : goal.returns
returns c = either_order
