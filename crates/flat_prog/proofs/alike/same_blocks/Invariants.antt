use Rattle.flat_prog.specs.declared.block.FlatBlock.{FlatBlock}
use Rattle.flat_prog.proofs.Matching.{Alike}
use Rattle.flat_prog.proofs.alike.same_blocks.Given as goal

abbrev pub invariant-loop-i : goal.invariant-loop-i
invariant-loop-i l = Alike FlatBlock l.left l.right l.i
