use Rattle.hy_val.proofs.Lawful.{children_lower}
use Rattle.hy_val.proofs.laws.children_are_lower.Goals as goal

pub returns : goal.returns
returns c = children_lower
