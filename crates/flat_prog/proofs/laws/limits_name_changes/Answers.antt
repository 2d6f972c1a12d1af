use Rattle.flat_prog.proofs.Marked.{limits_name}
use Rattle.flat_prog.proofs.laws.limits_name_changes.Goals as goal

pub returns : goal.returns
returns c = limits_name
