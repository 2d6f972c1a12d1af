use Rattle.passive_form.proofs.Widening.{plain_run}
use Rattle.passive_form.proofs.laws.plain_runs_are_runs.Goals as goal

pub returns : goal.returns
returns c = plain_run c.runs_keep_sorts.ensures
