use Rattle.flat_prog.proofs.Within.{within_exact}
use Rattle.flat_prog.proofs.laws.within_is_exact.Goals as goal

pub returns : goal.returns
returns c = within_exact
