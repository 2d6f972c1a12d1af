use Rattle.std.proofs.Common.{◌≡◌, ◌≤◌, ◌+◌, drop, length}
use Rattle.flat_prog.specs.Sites.{calls_of}
use Rattle.frontier.proofs.numbers.calls_in.Given as goal

abbrev pub invariant-loop-cmd : goal.invariant-loop-cmd
invariant-loop-cmd l = (l.count + length (calls_of (drop l.cmd-index l.cmds)) ≡ length (calls_of l.cmds)) × (l.count ≤ l.cmd-index)
