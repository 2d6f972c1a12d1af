use Rattle.std.proofs.Common.{◌≡◌, map, take}
use Rattle.extract_def.specs.Renaming.{moved_cmd}
use Rattle.loop_extract.proofs.renaming.moved_cmds.Given as goal

abbrev pub invariant-loop-cmd : goal.invariant-loop-cmd
invariant-loop-cmd l = l.all ≡ map (moved_cmd l.proc l.by) (take l.cmd-index l.cmds)
