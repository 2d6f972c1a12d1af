use Rattle.std.proofs.Common.{◌≡◌, map, take}
use Rattle.flat_prog.specs.Marking.{proc_writes}
use Rattle.flat_prog.proofs.changing.own_marks.Given as goal

abbrev pub invariant-loop-proc : goal.invariant-loop-proc
invariant-loop-proc l = l.marks ≡ map (proc_writes l.global) (take l.proc-index l.procs)
