use Rattle.tree_words.proofs.Listing.{passed_more}
use Rattle.tree_words.proofs.sites.sites_passed.Goals as goal

pub loop-block-preserved : goal.loop-block-preserved
loop-block-preserved c =
    passed_more c.args.blocks.now c.args.path.now c.loop-block.block-index c.in_ok-first.first c.calls_at.result c.loop-block.sites c.push_numbers.new.sites c.loop-block-test.true
    c.loop-block.invariant c.in_ok-first.ensures c.calls_at.ensures c.in_ok-push_numbers.ensures
