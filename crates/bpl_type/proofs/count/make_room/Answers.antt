use Rattle.std.proofs.Common.{ap, ◌∙◌}
use Rattle.bpl_type.specs.Counts.{sloped}
use Rattle.bpl_type.proofs.CountLaws.{sloped-zero}
use Rattle.bpl_type.proofs.count.make_room.Goals as goal

pub loop-slopes-preserved : goal.loop-slopes-preserved
loop-slopes-preserved c = λ i v. ap (λ ks. sloped ks i v) c.in_ok-push.ensures.ok ∙ sloped-zero v c.loop-slopes.slopes i ∙ c.loop-slopes.invariant i v
