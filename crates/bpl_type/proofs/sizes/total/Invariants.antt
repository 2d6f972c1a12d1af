use Rattle.std.proofs.Common.{take}
use Rattle.bpl_type.specs.Counts.{Alike, affine_at}
use Rattle.bpl_type.proofs.sizes.total.Given as goal

abbrev pub invariant-loop-slope : goal.invariant-loop-slope
invariant-loop-slope l = Alike l.most l.sum (affine_at l.tally.base (take l.slope-index l.tally.slopes) (λ n. 1))
