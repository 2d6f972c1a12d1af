use Rattle.vc_gen.proofs.Differing.{once}
use Rattle.vc_gen.proofs.laws.blocks_stand_once.Goals as goal

pub returns : goal.returns
returns c = once
