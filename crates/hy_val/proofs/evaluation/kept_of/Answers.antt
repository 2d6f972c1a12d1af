-- One node further.
use Rattle.std.proofs.Common.{◌+◌, drop, []}
use Rattle.hy_val.specs.Kept.{meant_onto}
use Rattle.hy_val.proofs.Evaluating.{at_node}
use Rattle.hy_val.proofs.Keeping.{stands_next}
use Rattle.hy_val.proofs.evaluation.kept_of.Goals as goal

pub loop-node-preserved : goal.loop-node-preserved
loop-node-preserved c =
    stands_next c.args.env.now c.args.nodes.now c.loop-node.kept.items c.push.new.self.items c.as_slice.result.now c.node-item.result
    (drop (c.loop-node.node-index + 1) c.args.nodes.now) c.node-next.result
    (record {
      values =
          at_node c.args.env.now c.args.nodes.now (meant_onto c.args.env.now [] c.loop-node.kept.items) c.loop-node.node-index
          c.node-item.result c.node-item.result c.loop-node-test.true c.node-item.is c.loop-node.invariant.values;
      keeps = c.loop-node.invariant.keeps;
    })
    c.as_slice.ensures.value c.in_ok-push.ensures.items c.node-next.ensures.value c.node-next.ensures.may
