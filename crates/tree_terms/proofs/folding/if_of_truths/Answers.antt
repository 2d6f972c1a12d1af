use Rattle.tree_terms.proofs.Growth.{formula_sorts}
use Rattle.tree_terms.proofs.Truths.{if_truths}
use Rattle.tree_terms.proofs.folding.if_of_truths.Goals as goal

pub by_truth-requires : goal.by_truth-requires
by_truth-requires c =
    if_truths c.each_node_has_its_value.ensures c.each_node_has_its_sort.ensures c.args.terms.now.nodes c.args.cond c.args.yes c.args.no c.args.high c.args.low (formula_sorts c.args.terms.now c.nodes-nodes.ensures.kept) c.requires.fits c.requires.yes c.requires.no
