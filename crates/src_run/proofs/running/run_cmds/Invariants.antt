use Rattle.std.proofs.Common.{◌≡◌, ◌≤◌, length, drop}
use Rattle.src_run.specs.Running.{run_of, CanRun}
use Rattle.src_run.proofs.running.run_cmds.Given as goal

abbrev pub invariant-loop-cmd : goal.invariant-loop-cmd
invariant-loop-cmd l = record {
  within : l.next ≤ length l.given;
  can : CanRun l.prog.procs (drop l.cmd-index l.cmds) l.env;
  rest : run_of l.entry (drop l.cmd-index l.cmds) l.env l.given l.next ≡ run_of l.entry l.cmds l.initial.env l.given l.first;
}
