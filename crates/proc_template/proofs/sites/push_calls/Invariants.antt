use Rattle.std.proofs.Common.{◌≡◌, ◌++◌, drop}
use Rattle.flat_prog.specs.Sites.{calls_of}
use Rattle.proc_template.proofs.sites.push_calls.Given as goal

abbrev pub invariant-loop-cmd : goal.invariant-loop-cmd
invariant-loop-cmd l = l.initial.callees ++ calls_of l.cmds ≡ l.callees ++ calls_of (drop l.cmd-index l.cmds)
