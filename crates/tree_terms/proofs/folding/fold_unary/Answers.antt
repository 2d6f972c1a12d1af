use Rattle.std.proofs.Common.{sym, subst}
use Rattle.hy_val.specs.declared.atom.Atom.{Atom}
use Rattle.hy_term.specs.declared.node.TermNode.TheVariants.{Unary}
use Rattle.tree_terms.specs.Folding.{IsConstant}
use Rattle.tree_terms.proofs.Growth.{formula_sorts}
use Rattle.tree_terms.proofs.Truths.{unary_literal}
use Rattle.tree_terms.proofs.folding.fold_unary.Goals as goal

pub apply1-requires : goal.apply1-requires
apply1-requires c =
    (unary_literal c.each_node_has_its_value.ensures c.each_node_has_its_sort.ensures c.values_keep_sorts.ensures c.args.terms.now.nodes c.args.op c.args.child c.in-Some.value (formula_sorts c.args.terms.now c.nodes-nodes.ensures.kept) c.requires c.in-Some.ensures).0

pub constant-requires : goal.constant-requires
constant-requires c =
    subst (λ (v : Atom). IsConstant c.args.terms.now.nodes (Unary c.args.op c.args.child) v) (sym c.apply1.ensures)
    (unary_literal c.each_node_has_its_value.ensures c.each_node_has_its_sort.ensures c.values_keep_sorts.ensures c.args.terms.now.nodes c.args.op c.args.child c.in-Some.value (formula_sorts c.args.terms.now c.nodes-nodes.ensures.kept) c.requires c.in-Some.ensures).1
