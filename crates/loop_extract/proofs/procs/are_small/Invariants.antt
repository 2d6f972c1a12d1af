use Rattle.std.proofs.Common.{◌≡◌, drop}
use Rattle.std.specs.List.{list_all}
use Rattle.extract_def.specs.Laws.{is_small_proc}
use Rattle.loop_extract.proofs.procs.are_small.Given as goal

abbrev pub invariant-loop-proc : goal.invariant-loop-proc
invariant-loop-proc l = list_all is_small_proc l.procs ≡ list_all is_small_proc (drop l.proc-index l.procs)
