use Rattle.std.proofs.Common.{List, ◌∷◌, [], ◌++◌, length, ap, ◌∙◌}
use Rattle.hy_term.specs.declared.node.TermNode.{TermNode}
use Rattle.hy_term.specs.declared.node.TermNode.TheVariants.{Variable}
use Rattle.tree_query.proofs.Bases.{low_pushed}
use Rattle.tree_query.proofs.opening.push_variable.Goals as goal

pub returns-clause-low : goal.returns-clause-low
returns-clause-low c =
    low_pushed c.args.terms.now.nodes c.add.new.self.nodes c.args.sort c.requires
    (c.in_ok-node.ensures.added ∙ ap (λ (ns : List TermNode). c.args.terms.now.nodes ++ Variable (length ns) c.args.sort ∷ []) c.nodes-number.ensures.value)
