use Rattle.std.proofs.Common.{ap, ◌∙◌}
use Rattle.frontier.specs.Ways.{callee_lists}
use Rattle.frontier.proofs.Sites.{all_next}
use Rattle.frontier.proofs.listing.sites_of_nodes.Goals as goal

pub loop-path-preserved : goal.loop-path-preserved
loop-path-preserved c =
    all_next c.args.flat.now c.args.entry c.args.bound c.args.tree.now c.in_ok-nodes.nodes c.as_slice.result.now c.args.wanted c.loop-path.path-index c.path-item.result c.loop-path.found.items c.push_node.new.found.items
    c.nodes_are_within_caps.ensures c.sites_extend_ways.ensures c.requires
    (c.as_slice.ensures.value ∙ c.in_ok-lists.ensures {u = tt} ∙ ap callee_lists c.procs-procs.ensures) (c.in_ok-nodes.ensures {u = tt}) c.loop-path-test.true c.path-item.is c.loop-path.invariant (c.in_ok-push_node.ensures {u = tt})
