use Rattle.std.proofs.Common.{◌≡◌, ℕ, List, ◌/◌, ◌<◌, length, rules, arith, subst, refl}
use Rattle.cnf_form.specs.Store.{LooksAt}
use Rattle.cnf_form.specs.declared.look.Look.TheVariants as says
use Rattle.sat_core.proofs.Extending.{learnt_none}
use Rattle.sat_core.proofs.Measure.{goes_longer, goes_deeper}
use Rattle.sat_core.proofs.Placing.{placed_room}
use Rattle.sat_core.proofs.Seeing.{unit_free, unit_variable, unit_forces, false_conflict}
use Rattle.sat_core.proofs.search.Search.turn.Goals as goal

pub propagate-requires-clause-free : goal.propagate-requires-clause-free
propagate-requires-clause-free g c =
    let cs = g.S.ClauseStore.clauses c.args.store.now in
    let s = c.args.self.now in
    let t = s.trail.items in
    let l = c.in-Unit.lit in
    let id = c.in-Unit.clause in
    let there = rw c.in-Unit.is at c.in_ok-lit.ensures.seen in
    let seen : LooksAt cs t id (says.Unit l) = subst (λ (ls : List ℕ). LooksAt cs ls id (says.Unit l)) c.requires.same there in
    unit_free cs t l id seen

pub propagate-requires-clause-variable : goal.propagate-requires-clause-variable
propagate-requires-clause-variable g c =
    let cs = g.S.ClauseStore.clauses c.args.store.now in
    let s = c.args.self.now in
    let t = s.trail.items in
    let l = c.in-Unit.lit in
    let id = c.in-Unit.clause in
    let there = rw c.in-Unit.is at c.in_ok-lit.ensures.seen in
    let seen : LooksAt cs t id (says.Unit l) = subst (λ (ls : List ℕ). LooksAt cs ls id (says.Unit l)) c.requires.same there in
    unit_variable cs t l id seen (length s.places.items) c.requires.in_range

pub propagate-requires-clause-forced : goal.propagate-requires-clause-forced
propagate-requires-clause-forced g c =
    let cs = g.S.ClauseStore.clauses c.args.store.now in
    let s = c.args.self.now in
    let t = s.trail.items in
    let l = c.in-Unit.lit in
    let id = c.in-Unit.clause in
    let there = rw c.in-Unit.is at c.in_ok-lit.ensures.seen in
    let seen : LooksAt cs t id (says.Unit l) = subst (λ (ls : List ℕ). LooksAt cs ls id (says.Unit l)) c.requires.same there in
    rw c.next.ensures.clauses (unit_forces cs t l id seen)

pub refute-requires-clause-conflict : goal.refute-requires-clause-conflict
refute-requires-clause-conflict g c =
    let cs = g.S.ClauseStore.clauses c.args.store.now in
    let t = c.args.self.now.trail.items in
    let id = c.in-Falsified.clause in
    let there = rw c.in-Falsified.is at c.in_ok-lit.ensures.seen in
    let seen : LooksAt cs t id says.Falsified = subst (λ (ls : List ℕ). LooksAt cs ls id says.Falsified) c.requires.same there in
    rw c.next.ensures.clauses (false_conflict cs t id seen)

pub learn-requires-clause-conflict : goal.learn-requires-clause-conflict
learn-requires-clause-conflict g c =
    let cs = g.S.ClauseStore.clauses c.args.store.now in
    let t = c.args.self.now.trail.items in
    let id = c.in-Falsified.clause in
    let there = rw c.in-Falsified.is at c.in_ok-lit.ensures.seen in
    let seen : LooksAt cs t id says.Falsified = subst (λ (ls : List ℕ). LooksAt cs ls id says.Falsified) c.requires.same there in
    rw c.next.ensures.clauses (false_conflict cs t id seen)

pub returns-in_ok-propagate-in-Unit-clause-turn : goal.returns-in_ok-propagate-in-Unit-clause-turn
returns-in_ok-propagate-in-Unit-clause-turn g c =
    let cs = g.S.ClauseStore.clauses c.args.store.now in
    let s = c.args.self.now in
    let t = s.trail.items in
    let l = c.in-Unit.lit in
    let id = c.in-Unit.clause in
    let there = rw c.in-Unit.is at c.in_ok-lit.ensures.seen in
    let seen : LooksAt cs t id (says.Unit l) = subst (λ (ls : List ℕ). LooksAt cs ls id (says.Unit l)) c.requires.same there in
    let ls = g.S.ClauseStore.assigned c.args.store.now in
    let pl = s.places.items in
    let p = c.in_ok-propagate-in-Unit.ensures in
    let room = placed_room t pl c.requires.placed (l / 2) (unit_free cs t l id seen) (unit_variable cs t l id seen (length pl) c.requires.in_range) in
    record {
      searching = p.searching;
      sized = p.sized;
      learnt = rw (p.clauses, c.next.ensures.clauses, p.lines) (learnt_none cs s.lines);
      less = rw (p.sized, p.starts, p.longer) (goes_longer cs ls t pl s.reasons.items s.starts.items c.requires room);
    }

pub returns-in_ok-decide-in-Nothing-clause-turn : goal.returns-in_ok-decide-in-Nothing-clause-turn
returns-in_ok-decide-in-Nothing-clause-turn g c =
    let cs = g.S.ClauseStore.clauses c.args.store.now in
    let ls = g.S.ClauseStore.assigned c.args.store.now in
    let s = c.args.self.now in
    let t = s.trail.items in
    let pl = s.places.items in
    let p = c.in_ok-decide-in-Nothing.ensures in
    let n = c.next_free-variable.ensures in
    let v = c.next_free-variable.result in
    let len : c.len.result ≡ length pl = search rules in
    let within : v < length pl = omega (arith, len, n.within, c.if-variable-len.false) in
    let room = placed_room t pl c.requires.placed v (n.free within) within in
    record {
      searching = p.searching;
      sized = rw (p.sized, n.places) refl;
      learnt = rw (p.clauses, c.next.ensures.clauses, p.lines, n.lines) (learnt_none cs s.lines);
      less = rw (p.sized, p.starts, p.longer, n.trail, n.places, n.starts) (goes_deeper cs ls t pl s.reasons.items s.starts.items c.requires room);
    }
