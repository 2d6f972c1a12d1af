use Rattle.flat_prog.proofs.Sorting.{runs_keep_sorts}
use Rattle.flat_prog.proofs.laws.runs_keep_sorts.Goals as goal

pub returns : goal.returns
returns c = runs_keep_sorts c.fitting_expressions_have_their_sorts.ensures c.values_keep_sorts.ensures
