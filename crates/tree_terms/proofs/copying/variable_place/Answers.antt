use Rattle.std.proofs.Common.{ℕ, List, [], ◌∷◌, ◌++◌, length, sym, subst, ◌∙◌, ap}
use Rattle.std.specs.Prelude.{IsTrue, slice_index}
use Rattle.hy_term.specs.declared.node.TermNode.{TermNode}
use Rattle.hy_term.specs.declared.node.TermNode.TheVariants.{Variable}
use Rattle.hy_term.specs.TermSorts.{fits_behind}
use Rattle.tree_terms.specs.Copying.{IsNext}
use Rattle.tree_terms.specs.Tables.{row}
use Rattle.tree_terms.proofs.Turning.{fresh_fits, next_down, next_fresh, next_given, next_up}
use Rattle.tree_terms.proofs.copying.variable_place.Goals as goal

pub push-requires : goal.push-requires
push-requires c =
    subst (λ (ns : List TermNode). IsTrue (fits_behind c.args.terms.now.nodes (Variable (length ns) c.args.sort))) (sym c.nodes-number.ensures.value)
    (fresh_fits c.args.q.now c.requires.state.0 c.args.terms.now.nodes c.args.places.now c.args.node c.args.number c.args.sort c.requires.state.1 c.requires.state.2 c.requires.go.tree c.requires.next).0

pub returns-in-Given : goal.returns-in-Given
returns-in-Given c =
    next_given c.args.q.now c.args.terms.now.nodes c.args.places.now c.args.node c.in-Given.term c.args.number c.args.sort c.requires.go.tree c.requires.next (sym c.source_of.ensures ∙ c.in-Given.is)

pub returns-in-Up : goal.returns-in-Up
returns-in-Up c =
    subst (λ (t : ℕ). IsNext c.args.q.now c.args.terms.now.nodes c.args.terms.now.nodes c.args.places.now c.args.node t)
    (sym (c.at.ensures ∙ ap (λ (p : ℕ). slice_index (row c.args.places.now p) c.in-Up.place) c.parent.ensures))
    (next_up c.args.q.now c.args.terms.now.nodes c.args.places.now c.args.node c.in-Up.place c.args.number c.args.sort c.requires.go c.requires.next (sym c.source_of.ensures ∙ c.in-Up.is))

pub returns-in-Down : goal.returns-in-Down
returns-in-Down c =
    subst (λ (t : ℕ). IsNext c.args.q.now c.args.terms.now.nodes c.args.terms.now.nodes c.args.places.now c.args.node t) (sym c.at-in-Down.ensures)
    (next_down c.args.q.now c.args.terms.now.nodes c.args.places.now c.args.node c.in-Down.callee c.in-Down.at c.args.number c.args.sort c.requires.go c.requires.next (sym c.source_of.ensures ∙ c.in-Down.is) c.requires.free)

pub returns-in_ok-place-in-Fresh : goal.returns-in_ok-place-in-Fresh
returns-in_ok-place-in-Fresh c =
    next_fresh c.args.q.now c.args.terms.now.nodes c.push.new.self.nodes c.args.places.now c.args.node c.args.number c.in_ok-place-in-Fresh.place c.args.sort c.requires.go.tree c.requires.next
    (sym c.source_of.ensures ∙ c.in-Fresh.is)
    (c.in_ok-place-in-Fresh.ensures.pushed ∙ ap (λ (ns : List TermNode). c.args.terms.now.nodes ++ Variable (length ns) c.args.sort ∷ []) c.nodes-number.ensures.value)
    c.in_ok-place-in-Fresh.ensures.number
