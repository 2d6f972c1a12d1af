use Rattle.std.proofs.Common.{◌≡◌, drop}
use Rattle.std.specs.List.{list_any}
use Rattle.flat_prog.specs.Marking.{is_marked}
use Rattle.flat_prog.proofs.changing.is_any_marked.Given as goal

abbrev pub invariant-loop-proc : goal.invariant-loop-proc
invariant-loop-proc l = list_any (is_marked l.marks) l.procs ≡ list_any (is_marked l.marks) (drop l.proc-index l.procs)
