use Rattle.vc_gen.proofs.Earlier.{globals_behind}
use Rattle.vc_gen.proofs.laws.globals_behind_calls_have_their_sorts.Goals as goal

pub returns : goal.returns
returns c = globals_behind
