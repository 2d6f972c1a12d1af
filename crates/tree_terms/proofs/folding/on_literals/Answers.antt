use Rattle.std.proofs.Common.{sym, subst}
use Rattle.hy_val.specs.declared.atom.Atom.{Atom}
use Rattle.hy_term.specs.declared.node.TermNode.TheVariants.{Binary}
use Rattle.tree_terms.specs.Folding.{IsConstant}
use Rattle.tree_terms.proofs.Growth.{formula_sorts}
use Rattle.tree_terms.proofs.Truths.{binary_literals}
use Rattle.tree_terms.proofs.folding.on_literals.Goals as goal

pub apply-requires : goal.apply-requires
apply-requires c =
    (binary_literals c.each_node_has_its_value.ensures c.each_node_has_its_sort.ensures c.values_keep_sorts.ensures c.args.terms.now.nodes c.args.op c.args.left c.args.right c.args.one c.args.other (formula_sorts c.args.terms.now c.nodes-nodes.ensures.kept) c.requires.fits c.requires.one c.requires.other).0

pub constant-requires : goal.constant-requires
constant-requires c =
    subst (λ (v : Atom). IsConstant c.args.terms.now.nodes (Binary c.args.op c.args.left c.args.right) v) (sym c.apply.ensures)
    (binary_literals c.each_node_has_its_value.ensures c.each_node_has_its_sort.ensures c.values_keep_sorts.ensures c.args.terms.now.nodes c.args.op c.args.left c.args.right c.args.one c.args.other (formula_sorts c.args.terms.now c.nodes-nodes.ensures.kept) c.requires.fits c.requires.one c.requires.other).1
