use Rattle.call_tree.proofs.Downward.{no_child}
use Rattle.call_tree.proofs.reach.child_below.Goals as goal

pub returns-in-None : goal.returns-in-None
returns-in-None c = no_child c.args.flat.now c.procs.result.now c.args.node.now.proc c.args.node.now.path c.args.node.now.children c.args.site c.procs.ensures (c.in-None.ensures {u = tt}).lookup.0
