use Rattle.src_law.proofs.Holding.{values_have_their_sorts as have_their_sorts}
use Rattle.src_law.proofs.laws.values_have_their_sorts.Goals as goal

pub returns : goal.returns
returns c = have_their_sorts
