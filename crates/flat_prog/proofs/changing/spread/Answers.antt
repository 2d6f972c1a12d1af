use Rattle.flat_prog.proofs.Marks.{spread_begins, spread_on, spread_ends}
use Rattle.flat_prog.proofs.changing.spread.Goals as goal

pub loop-init : goal.loop-init
loop-init c = spread_begins c.args.callees.now c.args.marks.now

pub loop-preserved : goal.loop-preserved
loop-preserved c = spread_on c.args.callees.now c.args.marks.now c.loop.marks c.round.new.marks c.round.result c.loop.invariant c.round.ensures

pub loop-smaller : goal.loop-smaller
loop-smaller c = c.round.ensures.fewer c.loop-test.true

pub returns : goal.returns
returns c = spread_ends c.args.callees.now c.args.marks.now c.loop.marks c.round.new.marks c.round.result c.loop.invariant c.round.ensures c.loop-test.false
