use Rattle.flat_prog.specs.declared.proc.FlatProc.{FlatProc}
use Rattle.flat_prog.proofs.Matching.{Alike}
use Rattle.flat_prog.proofs.alike.same_procs.Given as goal

abbrev pub invariant-loop-i : goal.invariant-loop-i
invariant-loop-i l = Alike FlatProc l.left l.right l.i
