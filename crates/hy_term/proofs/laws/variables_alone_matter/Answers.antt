use Rattle.hy_term.proofs.Numbering.{same_by_variables}
use Rattle.hy_term.proofs.laws.variables_alone_matter.Goals as goal

pub returns : goal.returns
returns c = same_by_variables
