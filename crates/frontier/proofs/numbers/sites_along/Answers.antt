use Rattle.std.proofs.Common.{slice_index_or}
use Rattle.frontier.proofs.Lists.{same_index}
use Rattle.frontier.proofs.Counting.{on_more}
use Rattle.frontier.proofs.numbers.sites_along.Goals as goal

pub loop-block-preserved : goal.loop-block-preserved
loop-block-preserved c =
    on_more c.args.table.now c.args.path.now c.loop-block.block-index (slice_index_or c.args.path.now c.loop-block.block-index 0) c.list_at.result.now c.loop-block.sites.items c.extend_from_slice.new.self.items
    c.loop-block-test.true (same_index c.args.path.now c.loop-block.block-index 0 c.loop-block-test.true) c.list_at.ensures c.loop-block.invariant (c.in_ok-extend_from_slice.ensures {u = tt}).items
