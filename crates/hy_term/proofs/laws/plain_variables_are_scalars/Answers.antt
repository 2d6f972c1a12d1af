use Rattle.hy_term.proofs.Placing.{plain_scalars}
use Rattle.hy_term.proofs.laws.plain_variables_are_scalars.Goals as goal

pub returns : goal.returns
returns c = plain_scalars
