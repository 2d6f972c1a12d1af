use Rattle.std.proofs.Common.{◌≡◌, ◌<◌, true, false, Some, length, get_or, slice_get, ap, ◌∙◌, sym, rules, arith, vec_len}
use Rattle.std.proofs.lemmas.List.{get_or_read_under}
use Rattle.cnf_form.specs.Literal.{is_among}
use Rattle.sat_watch.specs.Watching.{is_false, IsGuarded, IsWatching}
use Rattle.sat_watch.specs.declared.watch.Watch.{Watch}
use Rattle.sat_watch.proofs.Looking.{all_false, one_free}
use Rattle.sat_watch.proofs.Watched.{guarded_open, walked_open, watch_true}
use Rattle.sat_watch.proofs.watcher.Watcher.settle.Goals as goal

pub returns-in_default-clause-seen : goal.returns-in_default-clause-seen
returns-in_default-clause-seen c = (c.get-clause.result.now, c.get-clause.ensures, all_false c.args.trail.now c.get-clause.result.now c.in_default.ensures)

pub returns-then-is_true-clause-watching : goal.returns-then-is_true-clause-watching
returns-then-is_true-clause-watching c =
    let s = c.args.self.now in
    let cs = c.args.clauses.now in
    let t = c.args.trail.now in
    let place : c.len.result ≡ length s.since.items = search rules in
    let len : vec_len s.queue ≡ length s.queue.items = search rules in
    let within : c.len.result < vec_len s.queue = omega (arith, place, len, c.requires.some) in
    let id : c.index-id.result.now ≡ get_or s.queue.items (length s.since.items) 0 = get_or_read_under s.queue.items c.len.result (vec_len s.queue) c.index-id.result.now 0 c.index-id.ensures within len ∙ ap (λ k. get_or s.queue.items k 0) place in
    let found : slice_get cs (get_or s.queue.items (length s.since.items) 0) ≡ Some c.get-clause.result.now = ap (slice_get cs) (sym id) ∙ c.get-clause.ensures in
    let holds : is_among t c.in-Some.lit ≡ true = search rules in
    let all : c.len-then-is_true.result ≡ length t = search rules in
    rw (c.in_ok-push.ensures.items, all) (watch_true cs t s.walked s.watches.items s.lists s.queue.items s.since.items c.requires.watching c.get-clause.result.now c.in-Some.lit c.requires.some found c.in-Some.ensures.0 holds)

pub returns-in_default-other_open-clause-seen : goal.returns-in_default-other_open-clause-seen
returns-in_default-other_open-clause-seen c =
    let free : is_among c.args.trail.now c.in-Some.lit ≡ false = search rules in
    (c.get-clause.result.now, c.get-clause.ensures, one_free c.args.trail.now c.get-clause.result.now c.in-Some.lit c.in-Some.ensures.0 c.in_default-other_open.ensures c.in-Some.ensures.1 free)

pub returns-clause-watching : goal.returns-clause-watching
returns-clause-watching c =
    let s = c.args.self.now in
    let cs = c.args.clauses.now in
    let t = c.args.trail.now in
    let n = c.watch.new.self in
    let lit = c.in-Some.lit in
    let other = c.in-Some-other_open.other in
    let place : c.len.result ≡ length s.since.items = search rules in
    let len : vec_len s.queue ≡ length s.queue.items = search rules in
    let within : c.len.result < vec_len s.queue = omega (arith, place, len, c.requires.some) in
    let id : c.index-id.result.now ≡ get_or s.queue.items (length s.since.items) 0 = get_or_read_under s.queue.items c.len.result (vec_len s.queue) c.index-id.result.now 0 c.index-id.ensures within len ∙ ap (λ k. get_or s.queue.items k 0) place in
    let v : Watch = record { first = lit; second = other } in
    let w = c.requires.watching in
    let open_first : is_false s.walked lit ≡ false = walked_open cs t s.walked s.watches.items s.lists s.queue.items s.since.items w lit c.in-Some.ensures.1 in
    let open_second : is_false s.walked other ≡ false = walked_open cs t s.walked s.watches.items s.lists s.queue.items s.since.items w other c.in-Some-other_open.ensures.1 in
    let guard : IsGuarded s.walked v = guarded_open s.walked v (λ z. c.in-Some-other_open.ensures.2 (sym z)) open_first open_second in
    let next : IsWatching cs t n = c.watch.ensures.watching cs t c.get-clause.result.now c.get-clause.ensures c.in-Some.ensures.0 c.in-Some-other_open.ensures.0 w in
    let queue : n.queue.items ≡ s.queue.items = search rules in
    let since : n.since.items ≡ s.since.items = search rules in
    c.unqueue-2.ensures.watching cs t (λ h. rw (c.watch.ensures.walked, queue, since, ← id, c.in_ok-watch.ensures.watch) guard) next
