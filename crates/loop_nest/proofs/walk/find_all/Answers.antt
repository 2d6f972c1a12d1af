use Rattle.loop_nest.proofs.WalkLaws.{finds-step}
use Rattle.loop_nest.proofs.walk.find_all.Goals as goal

pub loop-block-preserved : goal.loop-block-preserved
loop-block-preserved c =
    finds-step c.args.blocks.now c.args.walk.now.found.items c.loop-block.walk.found.items c.find.new.walk.found.items c.args.walk.now.seen.items c.loop-block.walk.seen.items c.find.new.walk.seen.items
    c.loop-block.block-index c.loop-block-test.true c.loop-block.invariant c.in_ok-find.ensures
