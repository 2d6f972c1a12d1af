use Rattle.passive_form.proofs.There.{ordered_are_there}
use Rattle.passive_form.proofs.laws.ordered_blocks_are_there.Goals as goal

pub returns : goal.returns
returns c = ordered_are_there
