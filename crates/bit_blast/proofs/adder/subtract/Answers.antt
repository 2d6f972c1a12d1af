use Rattle.bit_blast.proofs.Adding.{differs}
use Rattle.bit_blast.proofs.adder.subtract.Goals as goal

pub returns-clause-value : goal.returns-clause-value
returns-clause-value c = λ ins e.
    (differs c.args.net.now c.push.new.net c.turned.new.net c.add_with_carry.new.net c.args.a.now c.args.b.now c.in_ok-turned.turned.items c.as_slice.result.now c.in_ok-whole.whole.sum.items c.in_ok-on.on c.in_ok-whole.whole.carry _ _ _
    c.push.ensures.grows c.turned.ensures.grows c.add_with_carry.ensures.grows c.requires.same c.requires.a c.requires.b
    c.in_ok-on.ensures.wire c.in_ok-on.ensures.value c.in_ok-turned.ensures.value c.as_slice.ensures.value c.in_ok-whole.ensures.word c.in_ok-whole.ensures.value ins e).0

pub returns-clause-at_most : goal.returns-clause-at_most
returns-clause-at_most c = λ ins e.
    (differs c.args.net.now c.push.new.net c.turned.new.net c.add_with_carry.new.net c.args.a.now c.args.b.now c.in_ok-turned.turned.items c.as_slice.result.now c.in_ok-whole.whole.sum.items c.in_ok-on.on c.in_ok-whole.whole.carry _ _ _
    c.push.ensures.grows c.turned.ensures.grows c.add_with_carry.ensures.grows c.requires.same c.requires.a c.requires.b
    c.in_ok-on.ensures.wire c.in_ok-on.ensures.value c.in_ok-turned.ensures.value c.as_slice.ensures.value c.in_ok-whole.ensures.word c.in_ok-whole.ensures.value ins e).1
