use Rattle.std.proofs.Common.{◌≡◌, drop}
use Rattle.std.specs.List.{list_all}
use Rattle.bpl_flow.specs.Counted.{is_counted_proc}
use Rattle.bpl_flow.proofs.counted.are_procs_counted.Given as goal

abbrev pub invariant-loop-proc : goal.invariant-loop-proc
invariant-loop-proc l = list_all is_counted_proc (drop l.proc-index l.procs) ≡ list_all is_counted_proc l.procs
