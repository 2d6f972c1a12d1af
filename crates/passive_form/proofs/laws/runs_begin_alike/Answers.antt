use Rattle.passive_form.proofs.Slimming.{start_is}
use Rattle.passive_form.proofs.laws.runs_begin_alike.Goals as goal

pub returns : goal.returns
returns c = start_is
