use Rattle.std.proofs.Common.{sym, subst}
use Rattle.std.specs.Prelude.{Bool, false}
use Rattle.hy_val.specs.Operators.{apply_to_bools}
use Rattle.hy_val.specs.declared.atom.AtomKind.TheVariants.{Bool as BoolAtom}
use Rattle.hy_term.specs.declared.node.TermNode.TheVariants.{Binary}
use Rattle.tree_terms.specs.Folding.{IsByTruth}
use Rattle.tree_terms.proofs.Growth.{formula_sorts}
use Rattle.tree_terms.proofs.Truths.{bools_right, lit_sort, right_means}
use Rattle.tree_terms.proofs.folding.right_truth.Goals as goal

pub on_bools-low-requires : goal.on_bools-low-requires
on_bools-low-requires c = (bools_right c.values_keep_sorts.ensures c.args.terms.now.nodes c.args.op c.args.left c.args.right (formula_sorts c.args.terms.now c.nodes-nodes.ensures.kept) c.requires.fits (lit_sort c.each_node_has_its_sort.ensures c.args.terms.now.nodes c.args.right (BoolAtom c.args.value) (formula_sorts c.args.terms.now c.nodes-nodes.ensures.kept) c.requires.literal)).0.some

pub on_bools-high-requires : goal.on_bools-high-requires
on_bools-high-requires c = (bools_right c.values_keep_sorts.ensures c.args.terms.now.nodes c.args.op c.args.left c.args.right (formula_sorts c.args.terms.now c.nodes-nodes.ensures.kept) c.requires.fits (lit_sort c.each_node_has_its_sort.ensures c.args.terms.now.nodes c.args.right (BoolAtom c.args.value) (formula_sorts c.args.terms.now c.nodes-nodes.ensures.kept) c.requires.literal)).0.some

pub by_truth-requires : goal.by_truth-requires
by_truth-requires c =
    subst (λ (b : Bool). IsByTruth c.args.terms.now.nodes (Binary c.args.op c.args.left c.args.right) c.args.left b c.on_bools-high.result) (sym c.on_bools-low.ensures)
    (subst (λ (b : Bool). IsByTruth c.args.terms.now.nodes (Binary c.args.op c.args.left c.args.right) c.args.left (apply_to_bools c.args.op false c.args.value) b) (sym c.on_bools-high.ensures)
    (right_means c.each_node_has_its_value.ensures c.each_node_has_its_sort.ensures c.each_value_has_its_sort.ensures c.values_keep_sorts.ensures c.args.terms.now.nodes c.args.op c.args.left c.args.right c.args.value (formula_sorts c.args.terms.now c.nodes-nodes.ensures.kept) c.requires.fits c.requires.literal))
