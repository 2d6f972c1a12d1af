use Rattle.std.proofs.Common.{subst}
use Rattle.hy_term.specs.Formula.{Formula}
use Rattle.tree_terms.specs.declared.folding.Folded.{Folded}
use Rattle.tree_terms.specs.declared.folding.Folded.TheVariants.{Node}
use Rattle.tree_terms.specs.Folding.{IsFolded}
use Rattle.tree_terms.proofs.Parts.{like_placed}
use Rattle.tree_terms.proofs.placing.placed.Goals as goal

pub returns-in_ok-number-in-Node : goal.returns-in_ok-number-in-Node
returns-in_ok-number-in-Node c =
    like_placed c.args.terms.now.nodes c.add.new.self.nodes c.args.node c.in-Node.other c.in_ok-number-in-Node.number c.requires.sorted c.requires.fits
    (subst (λ (f : Formula). IsFolded f.nodes c.args.node (Node c.in-Node.other)) c.terms.ensures (subst (λ (r : Folded). IsFolded c.terms.result.now.nodes c.args.node r) c.in-Node.is c.fold_node.ensures))
    c.in_ok-number-in-Node.ensures.node
