use Rattle.flat_prog.proofs.Keeping.{runs_keep}
use Rattle.flat_prog.proofs.laws.runs_keep.Goals as goal

pub returns : goal.returns
returns c = runs_keep
