use Rattle.hy_term.proofs.Numbering.{new_variables}
use Rattle.hy_term.proofs.laws.new_variables.Goals as goal

pub returns : goal.returns
returns c = new_variables
