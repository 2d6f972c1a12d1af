use Rattle.flat_prog.proofs.Taking.{runs_add}
use Rattle.flat_prog.proofs.laws.runs_add_their_calls.Goals as goal

pub returns : goal.returns
returns c = runs_add
