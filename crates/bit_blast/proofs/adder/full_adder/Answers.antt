use Rattle.bit_blast.proofs.Adding.{full_law}
use Rattle.bit_blast.proofs.adder.full_adder.Goals as goal

pub returns-clause-value : goal.returns-clause-value
returns-clause-value c =
    full_law c.args.net.now c.push.new.net c.push-2.new.net c.push-3.new.net c.args.a c.args.b c.args.carry c.in_ok-differs.differs c.in_ok-sum.sum c.in_ok-next.next
    c.push.ensures.grows c.push-2.ensures.grows c.push-3.ensures.grows c.requires.a c.requires.b c.requires.carry
    c.in_ok-differs.ensures.wire c.in_ok-sum.ensures.wire c.in_ok-differs.ensures.value c.in_ok-sum.ensures.value c.in_ok-next.ensures.value
