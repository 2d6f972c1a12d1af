use Rattle.std.proofs.Common.{◌≡◌, drop}
use Rattle.src_run.specs.Plain.{is_without_call}
use Rattle.src_run.proofs.plain.is_without_call.Given as goal

abbrev pub invariant-loop-cmd : goal.invariant-loop-cmd
invariant-loop-cmd l = is_without_call (drop l.cmd-index l.cmds) ≡ is_without_call l.cmds
