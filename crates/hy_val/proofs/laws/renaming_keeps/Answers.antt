use Rattle.hy_val.proofs.Lawful.{renaming}
use Rattle.hy_val.proofs.laws.renaming_keeps.Goals as goal

pub returns : goal.returns
returns c = renaming
