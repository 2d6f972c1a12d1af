use Rattle.std.proofs.Common.{◌≡◌, drop}
use Rattle.std.specs.List.{list_all}
use Rattle.flat_parts.specs.Parts.{proc_fits}
use Rattle.flat_parts.proofs.procs.procs_fit.Given as goal

abbrev pub invariant-loop-proc : goal.invariant-loop-proc
invariant-loop-proc l = list_all (proc_fits l.consts l.globals l.procs) (drop l.proc-index l.procs) ≡ list_all (proc_fits l.consts l.globals l.procs) l.procs
