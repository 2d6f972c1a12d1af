use Rattle.type_pass.proofs.TypeLaws.{sorts-further, sorts-done}
use Rattle.type_pass.proofs.types.sorts_in_order.Goals as goal

pub loop-node-preserved : goal.loop-node-preserved
loop-node-preserved c =
    sorts-further c.args.types.now c.args.numbers.now c.args.nodes.now c.requires.names c.requires.nodes c.loop-node.node-index c.loop-node.sorts.items c.as_slice.result.now c.put_sort.new.sorts.items c.sort_at-sort.result
    c.loop-node-test.true c.as_slice.ensures.value c.sort_at-sort.ensures c.put_sort.ensures c.loop-node.invariant

pub returns : goal.returns
returns c = sorts-done c.args.types.now c.args.nodes.now c.requires.nodes c.loop-node.node-index c.loop-node.sorts.items c.loop-node-test.false c.loop-node.invariant
