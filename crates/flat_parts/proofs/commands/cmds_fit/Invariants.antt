use Rattle.std.proofs.Common.{◌≡◌, drop}
use Rattle.std.specs.List.{list_all}
use Rattle.flat_prog.specs.Shape.{cmd_fits}
use Rattle.flat_parts.proofs.commands.cmds_fit.Given as goal

abbrev pub invariant-loop-cmd : goal.invariant-loop-cmd
invariant-loop-cmd l = list_all (cmd_fits l.procs l.known) (drop l.cmd-index l.cmds) ≡ list_all (cmd_fits l.procs l.known) l.cmds
