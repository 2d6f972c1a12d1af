use Rattle.std.proofs.Common.{◌≡◌, ℕ, ◌<◌, ◌≤◌, List, length, get_or, ap, ◌∙◌, sym, subst, inl, inr, rules, arith}
use Rattle.std.proofs.lemmas.Bool.{cases_Bool, cases_lt, false≢true}
use Rattle.cnf_form.specs.Literal.{is_among}
use Rattle.sat_watch.specs.Lists.{list_at}
use Rattle.sat_watch.specs.Watching.{IsHandled, IsStale}
use Rattle.sat_watch.proofs.Entries.{among_at}
use Rattle.sat_watch.proofs.Watched.{watch_dropped, other_listed}
use Rattle.sat_watch.proofs.watcher.Watcher.walk.Goals as goal

pub loop-at-preserved-then-branch : goal.loop-at-preserved-then-branch
loop-at-preserved-then-branch c =
    let s = c.loop-at.self in
    let n = c.visit.new.self in
    let l = c.args.lit in
    let at = c.loop-at.at in
    let e : list_at n.lists l ≡ list_at s.lists l = c.visit.ensures.list in
    let id : c.entry-id.result ≡ get_or (list_at s.lists l) at 0 = c.entry-id.ensures in
    let below : at < length (list_at s.lists l) = search rules in
    let P : ℕ → Type 0 = λ i. IsHandled n.queue.items n.walked n.watches.items l i in
    let read : (k : ℕ) → get_or (list_at s.lists l) k 0 ≡ get_or (list_at n.lists l) k 0 = λ k. ap (λ (r : List ℕ). get_or r k 0) (sym e) in
    record {
      watching = c.visit.ensures.watching;
      walked = c.visit.ensures.walked ∙ c.loop-at.invariant.walked;
      within = omega (arith, below, ap length e);
      handled = λ k h. subst P (read k) (elim (cases_lt k at) [
        | inl b ↦ c.visit.ensures.handled (get_or (list_at s.lists l) k 0) (c.loop-at.invariant.handled k b)
        | inr b ↦
            let z : at ≡ k = omega (arith, h, b) in
            subst P (id ∙ ap (λ j. get_or (list_at s.lists l) j 0) z) (c.in_ok-visit.ensures.stays c.if-branch.true)
      ]);
    }

pub loop-at-preserved : goal.loop-at-preserved
loop-at-preserved c =
    let s = c.loop-at.self in
    let n = c.visit.new.self in
    let l = c.args.lit in
    let at = c.loop-at.at in
    let less = c.take_out.new.self in
    let e : list_at n.lists l ≡ list_at s.lists l = c.visit.ensures.list in
    let id : c.entry-id.result ≡ get_or (list_at n.lists l) at 0 = c.entry-id.ensures ∙ ap (λ (r : List ℕ). get_or r at 0) (sym e) in
    let below : at < length (list_at s.lists l) = search rules in
    let P : ℕ → Type 0 = λ i. IsHandled n.queue.items n.walked n.watches.items l i in
    let Q : ℕ → Type 0 = λ i. IsStale n.watches.items l i in
    let stale : IsStale n.watches.items l (get_or (list_at n.lists l) at 0) = subst Q id (c.in_ok-visit.ensures.goes c.if-branch.false) in
    record {
      watching = watch_dropped c.args.clauses.now c.args.trail.now n.walked n.watches.items n.lists n.queue.items n.since.items c.visit.ensures.watching less l (get_or (list_at n.lists l) at 0) stale c.take_out.ensures.kept c.take_out.ensures.others;
      walked = c.visit.ensures.walked ∙ c.loop-at.invariant.walked;
      within = omega (arith, below, ap length e, c.take_out.ensures.len);
      handled = λ k h.
          let read : get_or (list_at s.lists l) k 0 ≡ get_or (list_at less l) k 0 = ap (λ (r : List ℕ). get_or r k 0) (sym e) ∙ sym (c.take_out.ensures.before k h) in
          subst P read (c.visit.ensures.handled (get_or (list_at s.lists l) k 0) (c.loop-at.invariant.handled k h));
    }

pub returns-clause-handled : goal.returns-clause-handled
returns-clause-handled c = λ i.
    let s = c.loop-at.self in
    let l = c.args.lit in
    let past : length (list_at s.lists l) ≤ c.loop-at.at = search rules in
    let P : ℕ → Type 0 = λ i. IsHandled s.queue.items s.walked s.watches.items l i in
    elim (cases_Bool (is_among (list_at s.lists l) i)) [
      | inl y ↦
          let there = among_at (list_at s.lists l) i y in
          subst P there.2 (c.loop-at.invariant.handled there.0 (omega (arith, there.1, past)))
      | inr n ↦ inr (λ o e. absurd (false≢true (sym n ∙ other_listed c.args.clauses.now c.args.trail.now s.walked s.watches.items s.lists s.queue.items s.since.items c.loop-at.invariant.watching i l o e)))
    ]
