use Rattle.std.proofs.Common.{take}
use Rattle.bpl_type.specs.Sizes.{AreCounted}
use Rattle.bpl_type.proofs.tallies.tallies.Given as goal

abbrev pub invariant-loop-number : goal.invariant-loop-number
invariant-loop-number l = AreCounted l.most l.ast (take l.number-index l.order) l.templates
