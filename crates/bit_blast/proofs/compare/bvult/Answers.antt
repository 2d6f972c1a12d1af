use Rattle.std.proofs.Common.{arith}
use Rattle.bit_blast.proofs.Growing.{grows_then}
use Rattle.bit_blast.proofs.Comparing.{below_law}
use Rattle.bit_blast.proofs.compare.bvult.Goals as goal

pub returns-clause-value : goal.returns-clause-value
returns-clause-value c =
    below_law c.args.net.now c.subtract.new.net c.negated.new.net c.args.a.now c.args.b.now c.in_ok-whole.whole.carry c.in_ok-wire.wire _ _
    c.subtract.ensures.grows c.negated.ensures.grows c.in_ok-whole.ensures.at_most c.in_ok-wire.ensures.value

pub returns-clause-grows : goal.returns-clause-grows
returns-clause-grows c = grows_then c.subtract.ensures.grows c.negated.ensures.grows (omega arith)
