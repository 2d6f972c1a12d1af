use Rattle.type_pass.proofs.TypeLaws.{flags-further, flags-done}
use Rattle.type_pass.proofs.types.flags_in_order.Goals as goal

pub loop-node-preserved : goal.loop-node-preserved
loop-node-preserved c =
    flags-further c.args.types.now c.args.numbers.now c.args.nodes.now c.requires.names c.requires.nodes c.loop-node.node-index c.loop-node.flags.items c.as_slice.result.now c.put_flag.new.flags.items c.flag_at-flag.result
    c.loop-node-test.true c.as_slice.ensures.value c.flag_at-flag.ensures c.put_flag.ensures c.loop-node.invariant

pub returns : goal.returns
returns c = flags-done c.args.types.now c.args.nodes.now c.requires.nodes c.loop-node.node-index c.loop-node.flags.items c.loop-node-test.false c.loop-node.invariant
