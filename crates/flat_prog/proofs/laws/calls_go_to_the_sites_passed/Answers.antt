use Rattle.flat_prog.proofs.Steps.{calls_of_run}
use Rattle.flat_prog.proofs.laws.calls_go_to_the_sites_passed.Goals as goal

pub returns : goal.returns
returns c = calls_of_run
