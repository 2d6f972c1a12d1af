use Rattle.src_run.proofs.Going.{has_status}
use Rattle.src_law.proofs.laws.each_list_has_a_status.Goals as goal

pub returns : goal.returns
returns c = has_status
