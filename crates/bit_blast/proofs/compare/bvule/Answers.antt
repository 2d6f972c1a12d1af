use Rattle.std.proofs.Common.{arith}
use Rattle.bit_blast.proofs.Growing.{grows_within}
use Rattle.bit_blast.proofs.compare.bvule.Goals as goal

pub returns-clause-value : goal.returns-clause-value
returns-clause-value c = c.in_ok-whole.ensures.at_most

pub returns-clause-grows : goal.returns-clause-grows
returns-clause-grows c = grows_within c.subtract.ensures.grows (omega (arith, c.requires.same))
