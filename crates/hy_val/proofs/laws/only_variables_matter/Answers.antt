use Rattle.hy_val.proofs.Lawful.{only_variables}
use Rattle.hy_val.proofs.laws.only_variables_matter.Goals as goal

pub returns : goal.returns
returns c = only_variables
