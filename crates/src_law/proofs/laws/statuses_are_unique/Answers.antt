use Rattle.src_run.specs.Machine.{begin}
use Rattle.src_run.proofs.Runs.{one_status}
use Rattle.src_law.proofs.laws.statuses_are_unique.Goals as goal

pub returns : goal.returns
returns c = λ prog entry bound choices one other h k. one_status prog bound 0 (begin prog entry) choices one other h k
