-- What is made is a question.
use Rattle.std.proofs.Common.{ℕ, List, sym, ap, ◌∙◌, subst}
use Rattle.hy_term.specs.Formula.{Formula as Terms}
use Rattle.hy_term.specs.TermSorts.{is_bool, sort_at}
use Rattle.call_tree.specs.declared.piece.Decision2.{Decision2}
use Rattle.tree_words.specs.Rooted.{AreReady}
use Rattle.tree_words.specs.RulesSaid.{numbered}
use Rattle.tree_query.proofs.Founds.{allowed_later, always_later, never_later}
use Rattle.tree_query.proofs.Making.{IsReached, made, mid_grows, ready_mid, root_same}
use Rattle.tree_query.proofs.questioning.asked.Goals as goal

pub copied-requires : goal.copied-requires
copied-requires c = record { linked = c.requires.table.ready.linked; sorted = c.requires.founded.sorted; low = c.requires.founded.low }

pub reaches-requires : goal.reaches-requires
reaches-requires c =
    let q = c.args.q.now in
    let done = c.in_ok-places.ensures in
    record {
      sorted = done.copying.sorted;
      always = always_later c.args.flat.now c.args.entry c.args.terms.nodes c.copied.new.terms.nodes q.consts q.globals q.args c.args.bools.allowed c.args.bools.always c.args.bools.never c.requires.founded done.copying.sorted done.copying.grows;
      never = never_later c.args.flat.now c.args.entry c.args.terms.nodes c.copied.new.terms.nodes q.consts q.globals q.args c.args.bools.allowed c.args.bools.always c.args.bools.never c.requires.founded done.copying.sorted done.copying.grows;
      sites = c.requires.table.ready.sites c.copied.new.terms.nodes c.in_ok-places.places done;
    }

pub may_pass-requires : goal.may_pass-requires
may_pass-requires c = c.as_slice.ensures ∙ c.requires.table.tabled

pub root_of-requires : goal.root_of-requires
root_of-requires c =
    let q = c.args.q.now in
    let reached : IsReached q c.args.terms.nodes c.copied.new.terms.nodes c.reaches.new.terms.nodes c.in_ok-places.places c.in_ok-reach.reach = record { done = c.in_ok-places.ensures; reaches = c.in_ok-reach.ensures } in
    let grows = mid_grows q c.args.terms.nodes c.copied.new.terms.nodes c.reaches.new.terms.nodes c.in_ok-places.places c.in_ok-reach.reach reached in
    let ready = ready_mid c.copies_stay.ensures c.args.flat.now c.args.entry c.args.bound c.args.tree.now c.args.piece.now q c.args.terms.nodes c.copied.new.terms.nodes c.reaches.new.terms.nodes c.in_ok-places.places
    c.in_ok-reach.reach c.requires.may c.requires.table reached in
    record {
      sorted = c.in_ok-reach.ensures.sorted;
      ready = subst (λ (r : List ℕ). AreReady q c.reaches.new.terms.nodes c.in_ok-places.places r c.as_slice-4.result.now) (sym c.as_slice-2.ensures)
          (subst (λ (ds : List (ℕ × Decision2)). AreReady q c.reaches.new.terms.nodes c.in_ok-places.places c.in_ok-reach.reach ds) (sym (c.as_slice-4.ensures ∙ c.in_ok-decisions.ensures)) ready);
      always = always_later c.args.flat.now c.args.entry c.args.terms.nodes c.reaches.new.terms.nodes q.consts q.globals q.args c.args.bools.allowed c.args.bools.always c.args.bools.never c.requires.founded
          c.in_ok-reach.ensures.sorted grows;
      never = never_later c.args.flat.now c.args.entry c.args.terms.nodes c.reaches.new.terms.nodes q.consts q.globals q.args c.args.bools.allowed c.args.bools.always c.args.bools.never c.requires.founded
          c.in_ok-reach.ensures.sorted grows;
      axioms = allowed_later c.args.flat.now c.args.entry c.args.terms.nodes c.reaches.new.terms.nodes q.consts q.globals q.args c.args.bools.allowed c.args.bools.always c.args.bools.never c.requires.founded
          c.in_ok-reach.ensures.sorted grows;
    }

pub set_root-requires : goal.set_root-requires
set_root-requires c = ap (λ (f : Terms). is_bool (sort_at f.nodes c.in_ok-root.root)) c.into_terms-terms.ensures ∙ ap is_bool c.in_ok-root.ensures.bool

pub returns : goal.returns
returns c =
    let q = c.args.q.now in
    let reached : IsReached q c.args.terms.nodes c.copied.new.terms.nodes c.reaches.new.terms.nodes c.in_ok-places.places c.in_ok-reach.reach = record { done = c.in_ok-places.ensures; reaches = c.in_ok-reach.ensures } in
    made c.copies_stay.ensures c.reaches_stay.ensures c.reaches_are_reached.ensures c.roots_are_made.ensures c.args.flat.now c.args.entry c.args.bound c.args.blocked c.args.tree.now c.args.piece.now q c.set_root.new.self
    c.args.terms.nodes c.copied.new.terms.nodes c.reaches.new.terms.nodes c.in_ok-places.places c.in_ok-reach.reach c.in_ok-may.may c.args.bools.allowed c.args.bools.always c.args.bools.never c.requires.may c.requires.founded
    c.requires.table reached c.in_ok-may.ensures
    (root_same q c.in_ok-places.places c.args.bools.allowed c.reaches.new.terms.nodes c.root_of.new.terms.nodes c.in_ok-root.root c.args.bools.always c.args.bools.never c.in_ok-reach.reach c.as_slice-2.result.now c.in_ok-may.may
    c.as_slice-3.result.now (numbered q c.args.piece.now) c.as_slice-4.result.now c.set_root.new.self c.as_slice-2.ensures c.as_slice-3.ensures (c.as_slice-4.ensures ∙ c.in_ok-decisions.ensures)
    (c.set_root.ensures.nodes ∙ ap (λ (f : Terms). f.nodes) c.into_terms-terms.ensures) c.set_root.ensures.root c.in_ok-root.ensures)
