use Rattle.std.proofs.Common.{ap, sym, ◌∙◌}
use Rattle.std.specs.Prelude.{slice_get}
use Rattle.hy_term.specs.Formula.{Formula}
use Rattle.tree_terms.proofs.Growth.{formula_sorts}
use Rattle.tree_terms.proofs.Parts.{added, found_placed}
use Rattle.tree_terms.proofs.shared.SharedTerms.add.Goals as goal

pub returns-in-Some-clause-node : goal.returns-in-Some-clause-node
returns-in-Some-clause-node c =
    found_placed c.args.self.now.nodes c.args.node c.in-Some.number (formula_sorts c.args.self.now c.nodes-nodes.ensures.kept)
    (ap (λ (f : Formula). slice_get f.nodes c.in-Some.number) (sym c.self.view_is) ∙ c.self.invariant c.args.node c.in-Some.number (sym c.get.ensures.value ∙ sym c.in-Some.ensures))

pub returns-in_ok-number-in-None-clause-node : goal.returns-in_ok-number-in-None-clause-node
returns-in_ok-number-in-None-clause-node c =
    added c.args.self.now.nodes c.push.new.self.nodes c.args.node c.in_ok-number-in-None.number (formula_sorts c.args.self.now c.nodes-nodes.ensures.kept) c.requires c.in_ok-number-in-None.ensures.pushed c.in_ok-number-in-None.ensures.number
