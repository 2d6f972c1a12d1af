use Rattle.std.proofs.Common.{◌≡◌, ◌<◌, ◌∙◌, ap, sym, subst, length, ℕ, List}
use Rattle.std.specs.Prelude.{slice_get, Some, None}
use Rattle.hy_val.specs.declared.sort.Sort.{Sort}
use Rattle.hy_term.specs.Formula.{Formula}
use Rattle.hy_term.specs.TermSorts.{sort_at}
use Rattle.hy_term.specs.declared.node.TermNode.{TermNode}
use Rattle.hy_term.proofs.Sorting.{sort_there, sort_got}
use Rattle.hy_term.proofs.terms.Terms.sort_of.Goals as goal

pub unreachable-requires : goal.unreachable-requires
unreachable-requires c =
    let same : length c.self.inside.nodes ≡ length c.args.self.now.nodes = ap (λ (f : Formula). length f.nodes) c.self.view_is in
    let here = sort_there c.self.inside.nodes c.self.inside.sorts c.args.node c.self.invariant.each (subst (λ (n : ℕ). c.args.node < n) (sym same) c.requires) in
    let get : slice_get c.as_slice.result.now c.args.node ≡ slice_get c.self.inside.sorts c.args.node = ap (λ (l : List Sort). slice_get l c.args.node) c.as_slice.ensures in
    let none : None ≡ Some here.0 = sym c.in-None.is ∙ c.at.ensures ∙ get ∙ here.1 in
    cc

pub returns : goal.returns
returns c =
    let get : slice_get c.as_slice.result.now c.args.node ≡ slice_get c.self.inside.sorts c.args.node = ap (λ (l : List Sort). slice_get l c.args.node) c.as_slice.ensures in
    let same : c.self.inside.nodes ≡ c.args.self.now.nodes = ap (λ (f : Formula). f.nodes) c.self.view_is in
    subst (λ (ns : List TermNode). sort_at ns c.args.node ≡ Some c.in-Some.sort) same
    (sort_got c.self.inside.nodes c.self.inside.sorts c.args.node c.in-Some.sort c.self.invariant.each (sym get ∙ sym c.at.ensures ∙ c.in-Some.is))
