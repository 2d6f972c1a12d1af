use Rattle.std.proofs.Common.{◌≡◌, ℕ, List, ◌+◌, ◌-◌, ◌<◌, ◌≤◌, ◌++◌, [], ◌∷◌, true, false, length, take, reverse, get_or, subst, rules, arith, length-take, length-drop, take_all, sym, ◌∙◌, ap, refl}
use Rattle.cnf_form.specs.Literal.{is_among, negation}
use Rattle.sat_core.specs.Analysis.{pending, segment, RefuteFrom}
use Rattle.sat_core.proofs.Marking.{among_here}
use Rattle.std.proofs.lemmas.Bool.{false≢true}
use Rattle.std.proofs.lemmas.List.{reverse-append}
use Rattle.sat_core.proofs.Refuting.{refute_step, refute_pass, refute_last}
use Rattle.sat_core.proofs.Learning.{front_more, pend_marked, pend_unmarked, pending_pos, fresh, opposed, forced_clause, learnt_follows, marked_in-length, marked_in-nil, some_within, conflict_pending, learnt_late, learnt_assigned, low_new, some_open}
use Rattle.cnf_form.proofs.Trails.{negation-negation}
use Rattle.sat_core.proofs.learn.analyze.Goals as goal

pub loop-p-init : goal.loop-p-init
loop-p-init g c =
    let T = c.args.trail.now in
    let cs = g.S.ClauseStore.clauses c.args.store.now in
    let k = c.requires.conflict in
    let open_one = some_open cs (take c.args.start T) k.0 c.args.conflict c.requires.quiet k.1 in
    let skip = c.index-trail-start.result in
    let whole : take (length T) T ≡ T = take_all (length T) T (omega arith) in
    let same : k.0 ≡ c.clause.result.now = cc (k.1, c.clause.ensures) in
    let here : is_among T skip ≡ true = among_here T c.args.start skip (omega arith) c.index-trail-start.is in
    let other : (q : ℕ) → is_among k.0 q ≡ true → q ≡ skip → ⊥ = λ q b z.
    false≢true (sym (c.requires.consistent skip here) ∙ ap (λ x. is_among T (negation x)) (sym z) ∙ k.2 q b) in
    let covered : (q : ℕ) → is_among k.0 q ≡ true → is_among c.mark_clause.new.marks (negation q) ≡ true = λ q b.
    c.in_ok-left.ensures.covered q (ap (λ (d : List ℕ). is_among d q) (sym same) ∙ b) (other q b) in
    let e : reverse c.push.new.self ≡ c.args.conflict ∷ [] = ap reverse c.in_ok-push.ensures.ok ∙ ap (λ (hs : List ℕ). reverse (hs ++ c.args.conflict ∷ [])) c.new-hints.ensures in
    let seg = segment T c.args.start (length T) in
    let zero : pending c.clear.new.self T c.args.start (length T) ≡ 0 = ap (λ (m : List ℕ). pending m T c.args.start (length T)) c.clear.ensures ∙ marked_in-nil seg in
    let left : c.in_ok-left.left ≡ pending c.mark_clause.new.marks T c.args.start (length T) = omega (arith, zero, c.in_ok-left.ensures.pending) in
    let some = conflict_pending T c.mark_clause.new.marks c.args.start open_one.0 (omega arith) (covered open_one.0 open_one.1) (k.2 open_one.0 open_one.1) open_one.2 in
    record {
      above = omega arith;
      within = omega arith;
      refute = rw e (refute_last cs (take (length T) T) c.mark_clause.new.marks k.0 c.args.conflict k.1 (λ q b. (covered q b, rw whole (k.2 q b))));
      low = c.in_ok-left.ensures.low;
      left = left;
      some = omega (arith, left, some);
    }

pub loop-p-preserved-then-not-is_false : goal.loop-p-preserved-then-not-is_false
loop-p-preserved-then-not-is_false g c =
    let T = c.args.trail.now in
    let cs = g.S.ClauseStore.clauses c.args.store.now in
    let p = c.loop-p.p in
    let lit = c.index-trail-p.result in
    let pos : 0 < p = omega arith in
    let below : c.args.start < p = omega arith in
    let l : p ≤ length T = c.loop-p.invariant.within in
    let unmarked : is_among c.loop-p.marks lit ≡ false = search rules in
    let front : RefuteFrom cs (take (p - 1) T ++ lit ∷ []) c.loop-p.marks (reverse c.loop-p.hints) = subst (λ (b : List ℕ). RefuteFrom cs b c.loop-p.marks (reverse c.loop-p.hints)) (front_more T p lit pos l c.index-trail-p.is) c.loop-p.invariant.refute in
    record {
      above = omega arith;
      within = omega (arith, l);
      refute = refute_pass cs (take (p - 1) T) c.loop-p.marks (reverse c.loop-p.hints) lit front unmarked;
      low = c.loop-p.invariant.low;
      left = c.loop-p.invariant.left ∙ pend_unmarked T p lit pos l c.index-trail-p.is c.loop-p.marks c.args.start below unmarked;
      some = c.loop-p.invariant.some;
    }

pub returns-then-left-eq1 : goal.returns-then-left-eq1
returns-then-left-eq1 g c =
    let T = c.args.trail.now in
    let cs = g.S.ClauseStore.clauses c.args.store.now in
    let p = c.loop-p.p in
    let lit = c.index-trail-p.result in
    let pos : 0 < p = omega arith in
    let below : c.args.start < p = omega arith in
    let l : p ≤ length T = c.loop-p.invariant.within in
    let marked : is_among c.loop-p.marks lit ≡ true = search rules in
    let ok = learnt_follows T p lit pos l c.index-trail-p.is cs c.loop-p.marks c.loop-p.low (reverse c.loop-p.hints) c.args.start c.requires.consistent below marked (sym c.loop-p.invariant.left ∙ c.if-left-eq1.true) c.loop-p.invariant.low c.loop-p.invariant.refute in
    let here = learnt_assigned T p lit pos l c.index-trail-p.is in
    let fresh_new = low_new cs T c.loop-p.low c.args.start lit c.requires.quiet c.requires.consistent ok.0 c.loop-p.invariant.low.assigned here in
    let same : c.push-then-left-eq1.new.self ≡ c.loop-p.low ++ negation lit ∷ [] = rw c.negated.ensures at c.in_ok-push-2.ensures.ok in
    record {
      derived = rw (c.in_ok-push-2.ensures.ok, c.negated.ensures, c.reverse.ensures, ok.0, ok.1) refl;
      new = rw same fresh_new;
      rest = c.loop-p.low;
      asserting = negation lit;
      ends = same;
      early = c.loop-p.invariant.low.assigned;
      assigned = rw negation-negation here;
      late = rw negation-negation (learnt_late T p lit pos l c.index-trail-p.is c.args.places.now c.requires.placed c.args.start below);
    }

pub clause-requires-in-loop-p : goal.clause-requires-in-loop-p
clause-requires-in-loop-p g c =
    let T = c.args.trail.now in
    let cs = g.S.ClauseStore.clauses c.args.store.now in
    let p = c.loop-p.p in
    let lit = c.index-trail-p.result in
    let pos : 0 < p = omega arith in
    let below : c.args.start < p = omega arith in
    let l : p ≤ length T = c.loop-p.invariant.within in
    let marked : is_among c.loop-p.marks lit ≡ true = search rules in
    let pend = pend_marked T p lit pos l c.index-trail-p.is c.loop-p.marks c.args.start below marked in
    let some : 1 ≤ pending c.loop-p.marks T c.args.start (p - 1) = omega (arith, pend, c.loop-p.invariant.left, c.loop-p.invariant.some, c.if-left-eq1.false) in
    let after : c.args.start < p - 1 = pending_pos c.loop-p.marks T c.args.start (p - 1) some in
    let f = c.requires.forced (p - 1) after (omega (arith, l)) in
    some_within cs (get_or c.args.reasons.now (p - 1) 0) f.0 f.1

pub mark_clause-requires-in-loop-p-clause-are_false : goal.mark_clause-requires-in-loop-p-clause-are_false
mark_clause-requires-in-loop-p-clause-are_false g c =
    let T = c.args.trail.now in
    let cs = g.S.ClauseStore.clauses c.args.store.now in
    let p = c.loop-p.p in
    let lit = c.index-trail-p.result in
    let pos : 0 < p = omega arith in
    let below : c.args.start < p = omega arith in
    let l : p ≤ length T = c.loop-p.invariant.within in
    let marked : is_among c.loop-p.marks lit ≡ true = search rules in
    let pend = pend_marked T p lit pos l c.index-trail-p.is c.loop-p.marks c.args.start below marked in
    let some : 1 ≤ pending c.loop-p.marks T c.args.start (p - 1) = omega (arith, pend, c.loop-p.invariant.left, c.loop-p.invariant.some, c.if-left-eq1.false) in
    let after : c.args.start < p - 1 = pending_pos c.loop-p.marks T c.args.start (p - 1) some in
    (forced_clause T p lit pos l c.index-trail-p.is cs c.args.reasons.now c.clause-in-loop-p.result.now c.args.start c.requires.forced after c.clause-in-loop-p.ensures).1

pub overflow_add-left : goal.overflow_add-left
overflow_add-left g c =
    let T = c.args.trail.now in
    let cs = g.S.ClauseStore.clauses c.args.store.now in
    let p = c.loop-p.p in
    let lit = c.index-trail-p.result in
    let pos : 0 < p = omega arith in
    let below : c.args.start < p = omega arith in
    let l : p ≤ length T = c.loop-p.invariant.within in
    let marked : is_among c.loop-p.marks lit ≡ true = search rules in
    let pend = pend_marked T p lit pos l c.index-trail-p.is c.loop-p.marks c.args.start below marked in
    let few : c.loop-p.left - 1 + c.in_ok-new.new ≤ p - 1 = omega (arith, pend, c.loop-p.invariant.left, c.in_ok-new.ensures.pending, marked_in-length c.mark_clause-in-loop-p.new.marks (segment T c.args.start (p - 1)), length-drop c.args.start (take (p - 1) T), length-take (p - 1) T) in
    search rules

pub loop-p-preserved : goal.loop-p-preserved
loop-p-preserved g c =
    let T = c.args.trail.now in
    let cs = g.S.ClauseStore.clauses c.args.store.now in
    let p = c.loop-p.p in
    let lit = c.index-trail-p.result in
    let pos : 0 < p = omega arith in
    let below : c.args.start < p = omega arith in
    let l : p ≤ length T = c.loop-p.invariant.within in
    let marked : is_among c.loop-p.marks lit ≡ true = search rules in
    let pend = pend_marked T p lit pos l c.index-trail-p.is c.loop-p.marks c.args.start below marked in
    let some : 1 ≤ pending c.loop-p.marks T c.args.start (p - 1) = omega (arith, pend, c.loop-p.invariant.left, c.loop-p.invariant.some, c.if-left-eq1.false) in
    let after : c.args.start < p - 1 = pending_pos c.loop-p.marks T c.args.start (p - 1) some in
    let reason = get_or c.args.reasons.now (p - 1) 0 in
    let marks' = c.mark_clause-in-loop-p.new.marks in
    let front : RefuteFrom cs (take (p - 1) T ++ lit ∷ []) c.loop-p.marks (reverse c.loop-p.hints) = subst (λ (b : List ℕ). RefuteFrom cs b c.loop-p.marks (reverse c.loop-p.hints)) (front_more T p lit pos l c.index-trail-p.is) c.loop-p.invariant.refute in
    let f = forced_clause T p lit pos l c.index-trail-p.is cs c.args.reasons.now c.clause-in-loop-p.result.now c.args.start c.requires.forced after c.clause-in-loop-p.ensures in
    let step : RefuteFrom cs (take (p - 1) T) marks' (reason ∷ reverse c.loop-p.hints) = refute_step cs (take (p - 1) T) c.loop-p.marks marks' (reverse c.loop-p.hints) lit reason front
    (fresh T p lit pos l c.index-trail-p.is c.args.places.now c.requires.placed) (opposed T p lit pos l c.index-trail-p.is c.requires.consistent)
    c.clause-in-loop-p.result.now c.clause-in-loop-p.ensures f.0 (λ q b n. (c.in_ok-new.ensures.covered q b n, f.1 q b n)) c.in_ok-new.ensures.grows in
    let e : reverse c.push-in-loop-p.new.self ≡ reason ∷ reverse c.loop-p.hints = ap reverse c.in_ok-push-3.ensures.ok ∙ reverse-append c.loop-p.hints (reason ∷ []) in
    record {
      above = omega (arith, after);
      within = omega (arith, l);
      refute = rw e step;
      low = c.in_ok-new.ensures.low;
      left = omega (arith, pend, c.loop-p.invariant.left, c.in_ok-new.ensures.pending);
      some = omega (arith, pend, c.loop-p.invariant.left, some);
    }
