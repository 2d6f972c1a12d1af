use Rattle.std.proofs.Common.{◌≡◌, drop}
use Rattle.std.specs.List.{list_all}
use Rattle.flat_parts.specs.Parts.{calls_on}
use Rattle.flat_parts.proofs.calls.block_calls_on.Given as goal

abbrev pub invariant-loop-cmd : goal.invariant-loop-cmd
invariant-loop-cmd l = list_all (calls_on l.procs l.number) (drop l.cmd-index l.block.cmds) ≡ list_all (calls_on l.procs l.number) l.block.cmds
