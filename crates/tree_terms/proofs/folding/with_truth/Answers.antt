use Rattle.tree_terms.proofs.Growth.{formula_sorts}
use Rattle.tree_terms.proofs.Truths.{left_within}
use Rattle.tree_terms.proofs.folding.with_truth.Goals as goal

pub is_bool-requires : goal.is_bool-requires
is_bool-requires c = left_within c.args.terms.now.nodes c.args.op c.args.left c.args.right (formula_sorts c.args.terms.now c.nodes-nodes.ensures.kept) c.requires
