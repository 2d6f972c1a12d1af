use Rattle.frontier.proofs.Counting.{block_more}
use Rattle.frontier.proofs.numbers.sites_in.Goals as goal

pub loop-block-preserved : goal.loop-block-preserved
loop-block-preserved c =
    block_more c.args.blocks.now c.loop-block.block-index c.block-item.result c.as_slice.result.now c.calls_in-count.result c.loop-block.next c.in_ok-next.next c.in_ok-numbers.field-0 c.loop-block.lists.items c.push.new.self.items
    c.loop-block-test.true c.block-item.is c.as_slice.ensures c.calls_in-count.ensures (c.in_ok-numbers.ensures {u = tt}) c.loop-block.invariant (c.in_ok-push.ensures {u = tt}).items (c.in_ok-next.ensures {u = tt})
