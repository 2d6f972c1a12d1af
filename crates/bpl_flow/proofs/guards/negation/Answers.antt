use Rattle.bpl_flow.proofs.Negation.{negated_from, some_nodes}
use Rattle.bpl_flow.proofs.guards.negation.Goals as goal

pub with_not-requires : goal.with_not-requires
with_not-requires c = some_nodes c.nodes.result.now c.args.condition.now c.nodes.ensures.value c.requires

pub new-requires : goal.new-requires
new-requires c = negated_from c.args.condition.now c.nodes.result.now c.in_ok-nodes.nodes c.requires c.nodes.ensures.value c.in_ok-nodes.ensures
