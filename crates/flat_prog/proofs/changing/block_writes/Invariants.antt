use Rattle.std.proofs.Common.{◌≡◌, drop}
use Rattle.std.specs.List.{list_any}
use Rattle.flat_prog.specs.Marking.{cmd_writes}
use Rattle.flat_prog.proofs.changing.block_writes.Given as goal

abbrev pub invariant-loop-cmd : goal.invariant-loop-cmd
invariant-loop-cmd l = list_any (cmd_writes l.global) l.block.cmds ≡ list_any (cmd_writes l.global) (drop l.cmd-index l.block.cmds)
