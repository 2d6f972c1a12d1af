use Rattle.vc_gen.proofs.Fitness.{passive_fits}
use Rattle.vc_gen.proofs.Readying.{passive_ready}
use Rattle.vc_gen.proofs.laws.passive_forms_are_ready.Goals as goal

pub returns : goal.returns
returns c = passive_ready passive_fits c.procedures_have_their_sorts.ensures c.ordered_blocks_are_there.ensures
