use Rattle.std.proofs.Common.{◌≡◌, ◌++◌, drop}
use Rattle.bpl_flow.specs.Flow.{procs_of, faults_of_procs}
use Rattle.bpl_flow.proofs.lowering.add_procs.Given as goal

abbrev pub invariant-loop-proc : goal.invariant-loop-proc
invariant-loop-proc l = record {
  procs : l.procs ++ procs_of (drop l.proc-index l.typed) ≡ l.initial.procs ++ procs_of l.typed;
  faults : l.faults ++ faults_of_procs (drop l.proc-index l.typed) ≡ l.initial.faults ++ faults_of_procs l.typed;
}
