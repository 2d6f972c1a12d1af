use Rattle.std.proofs.Common.{[], ap, ◌∙◌}
use Rattle.flat_prog.specs.Nodes.{run_of}
use Rattle.call_tree.specs.Questions.{frees_of}
use Rattle.call_tree.specs.Trees.{has_path}
use Rattle.frontier.specs.Passed.{site_tables}
use Rattle.frontier.proofs.Freeing.{node_more}
use Rattle.frontier.proofs.passing.free_sites.Goals as goal

pub loop-preserved : goal.loop-preserved
loop-preserved c = λ p.
    node_more c.args.flat.now c.nodes-nodes.result.now c.as_slice.result.now p c.in-Some.at c.loop.left.items c.pop.new.self.items c.push_node.new.left.items c.loop.free.items c.push_node.new.free.items
    (has_path (frees_of (run_of c.nodes-nodes.result.now) c.args.flat.now []) p)
    c.nodes_are_runs.ensures c.nodes-nodes.ensures.kept (c.as_slice.ensures.value ∙ c.in_ok-tables.ensures {u = tt} ∙ ap site_tables c.procs-procs.ensures) c.in-Some.ensures.items
    (c.loop.invariant p) ((c.in_ok-push_node.ensures {u = tt}) c.args.flat.now _ p)
