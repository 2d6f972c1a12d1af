use Rattle.vc_gen.proofs.Staying.{stay}
use Rattle.vc_gen.proofs.laws.runs_stay.Goals as goal

pub returns : goal.returns
returns c = stay
