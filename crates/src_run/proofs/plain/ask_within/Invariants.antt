use Rattle.std.proofs.Common.{◌≡◌, nat_le, drop}
use Rattle.src_run.specs.Plain.{asked_by_all}
use Rattle.src_run.proofs.plain.ask_within.Given as goal

abbrev pub invariant-loop-cmd : goal.invariant-loop-cmd
invariant-loop-cmd l = nat_le (asked_by_all (drop l.cmd-index l.cmds)) l.left ≡ nat_le (asked_by_all l.cmds) l.room
