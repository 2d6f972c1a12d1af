use Rattle.std.proofs.Common.{◌≡◌, ℕ, ◌<◌, length, length-append, get_or, ap, ◌∙◌, sym, subst, rules, arith}
use Rattle.cnf_form.specs.Literal.{negation, is_distinct}
use Rattle.sat_watch.specs.Watching.{IsHandled}
use Rattle.sat_watch.proofs.Entries.{distinct_next}
use Rattle.sat_watch.proofs.Watched.{next_of, watch_walked}
use Rattle.sat_watch.proofs.watcher.Watcher.walk_next.Goals as goal

pub push-requires : goal.push-requires
push-requires c =
    let s = c.args.self.now in
    let t = c.args.trail.now in
    let n = c.walk.new.self in
    let l = c.index-as_slice-len.result in
    let e : n.walked ≡ s.walked = c.walk.ensures.walked in
    let w = c.walk.ensures.watching in
    let below : length n.walked < length t = omega (arith, ap length w.front, length-append n.walked w.rest, ap length e, c.if-len.false, c.len.ensures, c.len-2.ensures) in
    let read : l ≡ get_or t (length n.walked) l = search rules in
    let next = next_of t n.walked w.rest l w.front below read in
    distinct_next n.walked l next.0 (ap is_distinct (sym next.1) ∙ w.plain.distinct)

pub returns-clause-watching : goal.returns-clause-watching
returns-clause-watching c =
    let s = c.args.self.now in
    let t = c.args.trail.now in
    let n = c.walk.new.self in
    let l = c.index-as_slice-len.result in
    let e : n.walked ≡ s.walked = c.walk.ensures.walked in
    let w = c.walk.ensures.watching in
    let below : length n.walked < length t = omega (arith, ap length w.front, length-append n.walked w.rest, ap length e, c.if-len.false, c.len.ensures, c.len-2.ensures) in
    let read : l ≡ get_or t (length n.walked) l = search rules in
    let next = next_of t n.walked w.rest l w.front below read in
    let P : ℕ → Type 0 = λ x. (i : ℕ) → IsHandled n.queue.items n.walked n.watches.items x i in
    let handled : (i : ℕ) → IsHandled n.queue.items n.walked n.watches.items (negation l) i = subst P c.negated.ensures c.in_ok-walk.ensures.handled in
    rw c.in_ok-push.ensures.ok (watch_walked c.args.clauses.now t n.walked n.watches.items n.lists n.queue.items n.since.items w l next.0 next.1 handled)
