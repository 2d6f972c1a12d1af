use Rattle.hy_val.proofs.Lawful.{keep_sorts}
use Rattle.hy_val.proofs.laws.values_keep_sorts.Goals as goal

pub returns : goal.returns
returns c = keep_sorts
