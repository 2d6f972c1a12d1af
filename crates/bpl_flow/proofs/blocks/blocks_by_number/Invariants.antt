use Rattle.std.proofs.Common.{length}
use Rattle.bpl_flow.proofs.Placing.{Placing}
use Rattle.bpl_flow.proofs.blocks.blocks_by_number.Given as goal

abbrev pub invariant-loop-block : goal.invariant-loop-block
invariant-loop-block l = Placing l.places l.exits l.fn.ended l.left l.count l.blocks

abbrev pub decreases-loop-block : goal.decreases-loop-block
decreases-loop-block l = length l.left
