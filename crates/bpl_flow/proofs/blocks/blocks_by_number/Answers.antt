use Rattle.bpl_flow.proofs.Placing.{Placing-begin, Placing-turn, Placing-pass}
use Rattle.bpl_flow.proofs.blocks.blocks_by_number.Goals as goal

pub loop-block-init : goal.loop-block-init
loop-block-init c = Placing-begin c.args.places.now c.args.exits.now c.args.ended c.args.count c.in_ok-blocks.blocks c.in_ok-blocks.ensures

pub loop-block-preserved-then-number-len : goal.loop-block-preserved-then-number-len
loop-block-preserved-then-number-len c = Placing-turn c.args.places.now c.args.exits.now c.args.ended c.loop-block.left c.pop.new.self c.in-Some.block c.args.count c.len.result c.loop-block.blocks c.set.new.self c.in_ok-next.next c.in-Some.ensures c.loop-block.invariant c.len.ensures c.if-number-len.true c.in_ok-next.ensures c.set.ensures

pub loop-block-preserved-then-number-len-2 : goal.loop-block-preserved-then-number-len-2
loop-block-preserved-then-number-len-2 c = Placing-turn c.args.places.now c.args.exits.now c.args.ended c.loop-block.left c.pop.new.self c.in-Some.block c.args.count c.len.result c.loop-block.blocks c.set.new.self c.in_ok-next.next c.in-Some.ensures c.loop-block.invariant c.len.ensures c.if-number-len.true c.in_ok-next.ensures c.set.ensures

pub loop-block-preserved : goal.loop-block-preserved
loop-block-preserved c = Placing-pass c.args.places.now c.args.exits.now c.args.ended c.loop-block.left c.pop.new.self c.in-Some.block c.args.count c.len.result c.loop-block.blocks c.in-Some.ensures c.loop-block.invariant c.len.ensures c.if-number-len.false
