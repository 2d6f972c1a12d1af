use Rattle.std.proofs.Common.{◌≡◌, ℕ, ◌<◌, true, List, [], ◌∷◌, ◌++◌, Some, length, refl, ap, ◌∙◌, sym, inl, inr, rules, arith}
use Rattle.std.proofs.lemmas.Bool.{or_right, eq-eqb, false≢true}
use Rattle.std.proofs.lemmas.Option.{slice_get_within}
use Rattle.cnf_form.specs.Literal.{is_among}
use Rattle.cnf_form.proofs.Trails.{is_among-push}
use Rattle.sat_watch.specs.Watches.{watch_at, other_watch}
use Rattle.sat_watch.specs.Watching.{is_false}
use Rattle.sat_watch.specs.declared.watch.Watch.{Watch}
use Rattle.sat_watch.proofs.Entries.{among_front}
use Rattle.sat_watch.proofs.Watched.{watch_entered, watch_replaced, watch_queued, stale_set}
use Rattle.sat_watch.proofs.watcher.Watcher.visit.Goals as goal

pub returns-in_err-replace-in-Some-other_open-clause-watching : goal.returns-in_err-replace-in-Some-other_open-clause-watching
returns-in_err-replace-in-Some-other_open-clause-watching c =
    let s = c.args.self.now in
    let n = c.replace.new.self in
    let same : n.watches ≡ s.watches = c.in_err-replace-in-Some-other_open.ensures.err in
    rw (c.replace.ensures.walked, same, c.replace.ensures.queue, c.replace.ensures.since) (watch_entered c.args.clauses.now c.args.trail.now s.walked s.watches.items s.lists s.queue.items s.since.items c.requires.watching n.lists c.replace.ensures.lists)

pub returns-in_ok-replace-in-Some-other_open-clause-watching : goal.returns-in_ok-replace-in-Some-other_open-clause-watching
returns-in_ok-replace-in-Some-other_open-clause-watching c =
    let s = c.args.self.now in
    let n = c.replace.new.self in
    let r = c.in_ok-replace-in-Some-other_open.ensures in
    let o = c.in-Some.other in
    let a = c.in-Some-other_open.open in
    let seen : other_watch (watch_at s.watches.items c.args.id) c.args.lit ≡ Some o = search rules in
    rw (c.replace.ensures.walked, r.watches, c.replace.ensures.queue, c.replace.ensures.since) (watch_replaced c.args.clauses.now c.args.trail.now s.walked s.watches.items s.lists s.queue.items s.since.items c.requires.watching n.lists c.args.id c.args.lit o a c.get.result.now seen c.get.ensures c.in-Some-other_open.ensures.0 c.in-Some-other_open.ensures.1 c.in-Some-other_open.ensures.2 c.requires.now_false c.replace.ensures.lists r.there)

pub returns-in_ok-replace-in-Some-other_open-clause-goes : goal.returns-in_ok-replace-in-Some-other_open-clause-goes
returns-in_ok-replace-in-Some-other_open-clause-goes c = λ e x h.
    let s = c.args.self.now in
    let l = c.args.lit in
    let o = c.in-Some.other in
    let a = c.in-Some-other_open.open in
    let seen : other_watch (watch_at s.watches.items c.args.id) l ≡ Some o = search rules in
    let within : c.args.id < length c.args.clauses.now = slice_get_within c.args.clauses.now c.args.id c.get.result.now c.get.ensures in
    let apart : a ≡ l → ⊥ = λ z. false≢true (sym c.in-Some-other_open.ensures.1 ∙ ap (is_false c.args.trail.now) z ∙ c.requires.now_false) in
    stale_set s.watches.items c.args.id l o a (omega (arith, within, c.requires.watching.room)) seen apart x (ap (λ (ws : List Watch). other_watch (watch_at ws c.args.id) l) (sym c.in_ok-replace-in-Some-other_open.ensures.watches) ∙ h)

pub returns-in_ok-push-in-None-clause-watching : goal.returns-in_ok-push-in-None-clause-watching
returns-in_ok-push-in-None-clause-watching c =
    let s = c.args.self.now in
    rw c.in_ok-push-in-None.ensures.items (watch_queued c.args.clauses.now c.args.trail.now s.walked s.watches.items s.lists s.queue.items s.since.items c.requires.watching c.args.id)

pub returns-in_ok-push-in-None-clause-handled : goal.returns-in_ok-push-in-None-clause-handled
returns-in_ok-push-in-None-clause-handled c = λ i h. elim h [
  | inl y ↦ inl (ap (λ (r : List ℕ). is_among r i) c.in_ok-push-in-None.ensures.items ∙ among_front c.args.self.now.queue.items (c.args.id ∷ []) i y)
  | inr y ↦ inr y
]

pub returns-in_ok-push-in-None-clause-stays : goal.returns-in_ok-push-in-None-clause-stays
returns-in_ok-push-in-None-clause-stays c = λ h.
    let q = c.args.self.now.queue.items in
    let here : is_among (q ++ c.args.id ∷ []) c.args.id ≡ true = is_among-push q c.args.id c.args.id ∙ or_right (is_among q c.args.id) _ (eq-eqb c.args.id c.args.id refl) in
    inl (ap (λ (r : List ℕ). is_among r c.args.id) c.in_ok-push-in-None.ensures.items ∙ here)
