use Rattle.std.proofs.Common.{◌≡◌, map, take}
use Rattle.flat_prog.specs.Marking.{callees_of}
use Rattle.flat_prog.proofs.changing.all_callees.Given as goal

abbrev pub invariant-loop-proc : goal.invariant-loop-proc
invariant-loop-proc l = l.callees ≡ map callees_of (take l.proc-index l.procs)
