use Rattle.hy_term.proofs.Placing.{are_listed}
use Rattle.hy_term.proofs.laws.variables_are_listed.Goals as goal

pub returns : goal.returns
returns c = are_listed
