use Rattle.std.proofs.Common.{◌≡◌, ◌∙◌, ◌++◌, [], ◌∷◌, ap, sym, subst, List}
use Rattle.std.specs.Prelude.{IsTrue, Some}
use Rattle.hy_val.specs.declared.sort.Sort.{Sort}
use Rattle.hy_term.specs.Formula.{Formula}
use Rattle.hy_term.specs.TermSorts.{Sorted, fits_behind, sort_of_node}
use Rattle.hy_term.specs.declared.node.TermNode.{TermNode}
use Rattle.hy_term.proofs.Sorting.{sorted_push}
use Rattle.hy_term.proofs.terms.Terms.add.Goals as goal

pub invariant_of-self-in-Ok : goal.invariant_of-self-in-Ok
invariant_of-self-in-Ok c =
    let whole : Formula = record { nodes = c.self.inside.nodes; root = c.self.inside.root } in
    let same : c.self.inside.nodes ≡ c.args.self.now.nodes = ap (λ (f : Formula). f.nodes) c.self.view_is in
    let fit : IsTrue (fits_behind c.self.inside.nodes c.args.node) = subst (λ (ns : List TermNode). IsTrue (fits_behind ns c.args.node)) (sym same) c.requires in
    let is : sort_of_node c.self.inside.sorts c.args.node ≡ Some c.in-Some.sort =
    ap (λ (ss : List Sort). sort_of_node ss c.args.node) (sym c.as_slice.ensures) ∙ sym c.sort_of_node.ensures ∙ c.in-Some.is in
    let pushed = sorted_push whole c.self.inside.sorts c.args.node c.in-Some.sort c.self.invariant fit is in
    let nodes : c.push-2.new.self ≡ c.self.inside.nodes ++ c.args.node ∷ [] = c.in-Ok.ensures.ok in
    let sorts : c.push.new.self ≡ c.self.inside.sorts ++ c.in-Some.sort ∷ [] = c.in_ok-push.ensures.ok in
    subst (λ (ns : List TermNode). Sorted (record { nodes = ns; root = c.self.inside.root }) c.push.new.self) (sym nodes)
    (subst (λ (ss : List Sort). Sorted (record { nodes = c.self.inside.nodes ++ c.args.node ∷ []; root = c.self.inside.root }) ss) (sym sorts) pushed)
