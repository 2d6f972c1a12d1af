use Rattle.bit_blast.proofs.Adding.{added}
use Rattle.bit_blast.proofs.adder.bvadd.Goals as goal

pub returns-clause-value : goal.returns-clause-value
returns-clause-value c =
    added c.args.net.now c.push.new.net c.add_with_carry.new.net c.args.a.now c.args.b.now c.in_ok-whole.whole.sum.items c.in_ok-off.off c.in_ok-whole.whole.carry _ _
    c.push.ensures.grows c.add_with_carry.ensures.grows c.requires.a c.requires.b c.in_ok-whole.ensures.word c.in_ok-off.ensures.value c.in_ok-whole.ensures.value
