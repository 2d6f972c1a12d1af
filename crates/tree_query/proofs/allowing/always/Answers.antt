use Rattle.std.proofs.Common.{List, ◌∷◌, [], ◌++◌, ap, ◌∙◌}
use Rattle.hy_val.specs.declared.atom.AtomKind.{AtomKind}
use Rattle.hy_term.specs.declared.node.TermNode.{TermNode}
use Rattle.hy_term.specs.declared.node.TermNode.TheVariants.{Lit}
use Rattle.tree_terms.proofs.Growth.{formula_sorts}
use Rattle.tree_query.proofs.Conjoining.{true_bit}
use Rattle.tree_query.proofs.allowing.always.Goals as goal

pub returns : goal.returns
returns c =
    true_bit c.new_value.ensures c.args.terms.now.nodes c.add.new.self.nodes c.in_ok-node.node (formula_sorts c.args.terms.now c.nodes-nodes.ensures.kept)
    (c.in_ok-node.ensures.added ∙ ap {B = List TermNode} (λ (x : AtomKind). c.args.terms.now.nodes ++ Lit x ∷ []) c.bool.ensures) c.in_ok-node.ensures.number
