use Rattle.bpl_show.proofs.Loops.{step, done}
use Rattle.bpl_show.proofs.lists.each.Goals as goal

pub loop-item-preserved : goal.loop-item-preserved
loop-item-preserved g c = step g.T.Show.tokens c.args.items.now c.loop-item.item-index _ c.item-item.result c.loop-item.out c.show.new.out c.loop-item-test.true c.item-item.is c.in_ok-show.ensures c.loop-item.invariant

pub returns : goal.returns
returns g c = done g.T.Show.tokens c.args.items.now c.loop-item.item-index _ c.loop-item.out c.loop-item-test.false c.loop-item.invariant
