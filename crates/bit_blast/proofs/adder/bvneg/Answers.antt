use Rattle.std.proofs.Common.{◌∙◌, refl, length}
use Rattle.bit_blast.proofs.Adding.{negates}
use Rattle.bit_blast.proofs.adder.bvneg.Goals as goal

pub returns-clause-value : goal.returns-clause-value
returns-clause-value c =
    negates c.args.net.now c.push.new.net c.bvsub.new.net c.args.a.now c.as_slice.result.now c.in_ok-out.out.items (length c.args.a.now) c.in_ok-off.off _ _
    c.push.ensures.grows c.bvsub.ensures.grows c.requires.a refl (c.as_slice.ensures.value ∙ c.in_ok-zero.ensures) c.in_ok-off.ensures.value c.in_ok-out.ensures.value
