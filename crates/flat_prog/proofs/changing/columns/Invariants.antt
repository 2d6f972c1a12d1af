use Rattle.flat_prog.specs.Marking.{AreColumns}
use Rattle.flat_prog.proofs.changing.columns.Given as goal

abbrev pub invariant-loop-global : goal.invariant-loop-global
invariant-loop-global l = AreColumns l.procs l.global l.columns
