use Rattle.std.proofs.Common.{ℕ, List, length, sym, subst, ◌∙◌, ap}
use Rattle.std.specs.Prelude.{IsTrue, slice_index}
use Rattle.hy_term.specs.declared.node.TermNode.{TermNode}
use Rattle.hy_term.specs.TermSorts.{fits_behind}
use Rattle.tree_terms.specs.Copies.{children_below, renamed, IsPlaced}
use Rattle.tree_terms.proofs.Turning.{is_no_variable, made_behind, made_children, next_made}
use Rattle.tree_terms.proofs.copying.next_place.Goals as goal

pub renamed-requires : goal.renamed-requires
renamed-requires c =
    subst (λ (r : List ℕ). IsTrue (children_below (length r) c.args.next.now)) (sym c.row.ensures)
    (made_children c.args.q.now c.requires.state.0 c.args.terms.now.nodes c.args.places.now c.args.node c.args.next.now c.requires.state.1 c.requires.state.2 c.requires.go.tree c.requires.next)

pub placed-requires : goal.placed-requires
placed-requires c =
    let same = c.renamed.ensures ∙ ap (λ (r : List ℕ). renamed (slice_index r) c.args.next.now) c.row.ensures in
    record {
      fits = subst (λ (n : TermNode). IsTrue (fits_behind c.args.terms.now.nodes n)) (sym same)
          (made_behind c.args.q.now c.requires.state.0 c.args.terms.now.nodes c.args.places.now c.args.node c.args.next.now c.requires.state.1 c.requires.state.2 c.requires.go.tree c.requires.next
          (is_no_variable c.args.next.now c.in_default.not-Variable));
      sorted = c.requires.state.2.sorted;
    }

pub returns : goal.returns
returns c =
    let same = c.renamed.ensures ∙ ap (λ (r : List ℕ). renamed (slice_index r) c.args.next.now) c.row.ensures in
    next_made c.args.q.now c.args.terms.now.nodes c.placed.new.terms.nodes c.args.places.now c.args.node c.in_ok-place.place c.args.next.now c.requires.go.tree c.requires.next
    (is_no_variable c.args.next.now c.in_default.not-Variable)
    (subst (λ (n : TermNode). IsPlaced c.args.terms.now.nodes c.placed.new.terms.nodes n c.in_ok-place.place) same c.in_ok-place.ensures)
