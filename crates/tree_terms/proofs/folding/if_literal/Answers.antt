use Rattle.tree_terms.proofs.Growth.{formula_sorts}
use Rattle.tree_terms.proofs.Truths.{if_false, if_true}
use Rattle.tree_terms.proofs.folding.if_literal.Goals as goal

pub returns-then-value : goal.returns-then-value
returns-then-value c = if_true c.each_node_has_its_value.ensures c.args.terms.now.nodes c.args.cond c.args.yes c.args.no c.args.value (formula_sorts c.args.terms.now c.nodes-nodes.ensures.kept) c.requires.fits c.requires.literal c.if-value.true

pub returns-else-value : goal.returns-else-value
returns-else-value c = if_false c.each_node_has_its_value.ensures c.args.terms.now.nodes c.args.cond c.args.yes c.args.no c.args.value (formula_sorts c.args.terms.now c.nodes-nodes.ensures.kept) c.requires.fits c.requires.literal c.if-value.false
