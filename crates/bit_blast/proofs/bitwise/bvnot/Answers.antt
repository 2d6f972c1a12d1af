use Rattle.bit_blast.proofs.EachBit.{not_law}
use Rattle.bit_blast.proofs.bitwise.bvnot.Goals as goal

pub returns-clause-value : goal.returns-clause-value
returns-clause-value c =
    not_law c.args.net.now c.push.new.net c.turned.new.net c.args.a.now c.in_ok-out.out.items c.in_ok-on.on _ _ c.push.ensures.grows c.turned.ensures.grows c.requires.a c.in_ok-on.ensures.value c.in_ok-out.ensures.value
