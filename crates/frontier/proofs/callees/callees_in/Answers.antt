use Rattle.frontier.proofs.Lists.{sites_pushed}
use Rattle.frontier.proofs.callees.callees_in.Goals as goal

pub loop-block-preserved : goal.loop-block-preserved
loop-block-preserved c =
    sites_pushed c.args.blocks.now c.loop-block.block-index c.block-item.result c.as_slice.result.now c.loop-block.callees.items c.push_calls.new.callees.items c.loop-block-test.true c.block-item.is c.as_slice.ensures
    c.loop-block.invariant (c.in_ok-push_calls.ensures {u = tt})
