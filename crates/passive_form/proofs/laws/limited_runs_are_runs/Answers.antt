use Rattle.passive_form.proofs.Slimming.{limited_run}
use Rattle.passive_form.proofs.laws.limited_runs_are_runs.Goals as goal

pub returns : goal.returns
returns c = limited_run
