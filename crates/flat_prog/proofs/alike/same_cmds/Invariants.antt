use Rattle.flat_prog.specs.declared.block.FlatCmd.{FlatCmd}
use Rattle.flat_prog.proofs.Matching.{Alike}
use Rattle.flat_prog.proofs.alike.same_cmds.Given as goal

abbrev pub invariant-loop-i : goal.invariant-loop-i
invariant-loop-i l = Alike FlatCmd l.left l.right l.i
