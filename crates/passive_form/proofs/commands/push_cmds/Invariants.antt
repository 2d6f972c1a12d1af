use Rattle.std.specs.Prelude.{◌≡◌, drop}
use Rattle.passive_form.proofs.Loops.{all_pushed}
use Rattle.passive_form.proofs.commands.push_cmds.Given as goal

abbrev pub invariant-loop-cmd : goal.invariant-loop-cmd
invariant-loop-cmd l = all_pushed l.program l.proc (l.initial.draft, 0) l.cmds ≡ all_pushed l.program l.proc (l.draft, l.position) (drop l.cmd-index l.cmds)
