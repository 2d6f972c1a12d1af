use Rattle.vc_gen.proofs.OneEach.{one_each}
use Rattle.vc_gen.proofs.laws.calls_have_one_site_each.Goals as goal

pub returns : goal.returns
returns c = one_each
