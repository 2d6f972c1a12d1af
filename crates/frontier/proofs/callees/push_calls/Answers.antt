use Rattle.frontier.proofs.Lists.{calls_pushed}
use Rattle.frontier.proofs.callees.push_calls.Goals as goal

pub loop-cmd-preserved : goal.loop-cmd-preserved
loop-cmd-preserved c =
    calls_pushed c.args.cmds.now c.loop-cmd.cmd-index c.cmd-item.result c.args.callees.now.items c.loop-cmd.callees.items c.push_call.new.callees.items c.loop-cmd-test.true c.cmd-item.is
    c.loop-cmd.invariant (c.in_ok-push_call.ensures {u = tt})
