use Rattle.src_law.proofs.Causing.{statuses_have_causes as have_causes}
use Rattle.src_law.proofs.laws.statuses_have_causes.Goals as goal

pub returns : goal.returns
returns c = have_causes
