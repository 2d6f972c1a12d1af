use Rattle.frontier.proofs.Paths.{node_added}
use Rattle.frontier.proofs.nodes.NodeSet.of.Goals as goal

pub loop-node-preserved : goal.loop-node-preserved
loop-node-preserved c =
    node_added c.args.nodes.now c.loop-node.node-index c.node-item.result c.sites.result.now c.loop-node.set c.add.new.self c.loop-node-test.true c.node-item.is c.sites.ensures c.loop-node.invariant (c.in_ok-add.ensures {u = tt})
