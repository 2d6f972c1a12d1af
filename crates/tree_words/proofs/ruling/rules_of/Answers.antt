use Rattle.tree_words.specs.Asking.{may_by}
use Rattle.tree_words.proofs.RuleSteps.{node_more}
use Rattle.tree_words.proofs.ruling.rules_of.Goals as goal

pub loop-node-preserved : goal.loop-node-preserved
loop-node-preserved c =
    node_more c.args.q.now c.args.places.now c.args.reach.now (may_by c.args.may.now) c.loop-node.node c.loop-node.rules c.push_over.new.rules c.push_cuts.new.rules c.loop-node.invariant c.in_ok-push_over.ensures c.in_ok-push_cuts.ensures
