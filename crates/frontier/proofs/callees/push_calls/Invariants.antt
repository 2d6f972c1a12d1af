use Rattle.std.proofs.Common.{◌≡◌, ◌++◌, take}
use Rattle.flat_prog.specs.Sites.{calls_of}
use Rattle.frontier.proofs.callees.push_calls.Given as goal

abbrev pub invariant-loop-cmd : goal.invariant-loop-cmd
invariant-loop-cmd l = l.callees.items ≡ l.fn.callees.items ++ calls_of (take l.cmd-index l.cmds)
