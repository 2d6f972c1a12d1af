use Rattle.std.proofs.Common.{◌≡◌, ℕ, ◌<◌, zero, suc, length, arith, refl, sym, ap, ◌∙◌, subst}
use Rattle.std.specs.Prelude.{slice_index, if◌then◌else◌}
use Rattle.tree_terms.specs.Tables.{row}
use Rattle.tree_terms.specs.Linked.{parent}
use Rattle.tree_terms.specs.Rules.{IsBool, IsBit, bit}
use Rattle.tree_terms.specs.Reach.{site_term}
use Rattle.tree_terms.proofs.Reaching.{next_term, site_facts}
use Rattle.tree_terms.proofs.reach.reach_term.Goals as goal

positive : (n : ℕ) → (n ≡ 0 → ⊥) → 0 < n
positive zero h = absurd (h refl)
positive (suc n) h = omega arith

pub at-site-requires-clause-node : goal.at-site-requires-clause-node
at-site-requires-clause-node c =
    let s = site_facts c.args.q.now c.args.terms.now.nodes c.args.places.now (length c.args.reach.now) c.requires.sites c.requires.within (positive (length c.args.reach.now) c.if-node-eq0.false) in
    omega (arith, c.parent-up.ensures, s.0, c.requires.within, c.requires.sites.count)

pub at-site-requires-clause-index : goal.at-site-requires-clause-index
at-site-requires-clause-index c =
    let s = site_facts c.args.q.now c.args.terms.now.nodes c.args.places.now (length c.args.reach.now) c.requires.sites c.requires.within (positive (length c.args.reach.now) c.if-node-eq0.false) in
    subst (λ (p : ℕ). c.site_node.result < length (row c.args.places.now p)) (sym c.parent-up.ensures)
    (subst (λ (i : ℕ). i < length (row c.args.places.now (parent c.args.q.now (length c.args.reach.now)))) (sym c.site_node.ensures) s.1)

pub number_at-caller-requires : goal.number_at-caller-requires
number_at-caller-requires c =
    let s = site_facts c.args.q.now c.args.terms.now.nodes c.args.places.now (length c.args.reach.now) c.requires.sites c.requires.within (positive (length c.args.reach.now) c.if-node-eq0.false) in
    omega (arith, c.parent-up.ensures, s.0)

pub choice-requires-clause-cond : goal.choice-requires-clause-cond
choice-requires-clause-cond c =
    let s = site_facts c.args.q.now c.args.terms.now.nodes c.args.places.now (length c.args.reach.now) c.requires.sites c.requires.within (positive (length c.args.reach.now) c.if-node-eq0.false) in
    subst (λ (t : ℕ). IsBool c.args.terms.now.nodes t) (sym (c.number_at-caller.ensures ∙ ap (slice_index c.args.reach.now) c.parent-up.ensures))
    (c.requires.reach.bools (parent c.args.q.now (length c.args.reach.now)) s.0)

pub choice-requires-clause-yes : goal.choice-requires-clause-yes
choice-requires-clause-yes c =
    let s = site_facts c.args.q.now c.args.terms.now.nodes c.args.places.now (length c.args.reach.now) c.requires.sites c.requires.within (positive (length c.args.reach.now) c.if-node-eq0.false) in
    subst (λ (t : ℕ). IsBool c.args.terms.now.nodes t)
    (sym (c.at-site.ensures ∙ (ap (λ (p : ℕ). slice_index (row c.args.places.now p) c.site_node.result) c.parent-up.ensures
    ∙ ap (λ (i : ℕ). slice_index (row c.args.places.now (parent c.args.q.now (length c.args.reach.now))) i) c.site_node.ensures))) s.2

pub returns : goal.returns
returns c =
    let site = c.at-site.ensures ∙ (ap (λ (p : ℕ). slice_index (row c.args.places.now p) c.site_node.result) c.parent-up.ensures
    ∙ ap (λ (i : ℕ). slice_index (row c.args.places.now (parent c.args.q.now (length c.args.reach.now))) i) c.site_node.ensures) in
    let caller = c.number_at-caller.ensures ∙ ap (slice_index c.args.reach.now) c.parent-up.ensures in
    next_term c.args.q.now c.args.places.now c.args.terms.now.nodes c.choice.new.terms.nodes c.args.reach.now c.args.never (length c.args.reach.now) c.in_ok-place.place c.requires.never refl
    (positive (length c.args.reach.now) c.if-node-eq0.false)
    (subst (λ (x : ℕ). IsBit c.args.terms.now.nodes c.choice.new.terms.nodes
    (λ a. if bit a c.args.terms.now.nodes x then bit a c.args.terms.now.nodes (site_term c.args.q.now c.args.places.now (length c.args.reach.now)) else bit a c.args.terms.now.nodes c.args.never) c.in_ok-place.place) caller
    (subst (λ (y : ℕ). IsBit c.args.terms.now.nodes c.choice.new.terms.nodes
    (λ a. if bit a c.args.terms.now.nodes c.number_at-caller.result then bit a c.args.terms.now.nodes y else bit a c.args.terms.now.nodes c.args.never) c.in_ok-place.place) site c.in_ok-place.ensures))
