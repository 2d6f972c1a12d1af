use Rattle.std.proofs.Common.{◌≡◌, ℕ, ◌+◌, ◌-◌, ◌<◌, length, get_or, vec_len, ap, sym, ◌∙◌, rules, arith}
use Rattle.sat_watch.proofs.Watched.{watch_unqueued}
use Rattle.sat_watch.proofs.watcher.Watcher.unqueue.Goals as goal

pub returns-clause-watching : goal.returns-clause-watching
returns-clause-watching c = λ cs t guard w.
    let s = c.args.self.now in
    let q = s.queue.items in
    let left = c.swap_remove.new.self.items in
    let len : vec_len s.queue ≡ length q = search rules in
    let place : c.len.result ≡ length s.since.items = search rules in
    let less : length left + 1 ≡ length q = search rules in
    let last : length s.since.items + 1 < length q → get_or left (length s.since.items) 0 ≡ get_or q (length q - 1) 0 = λ h.
    ap (λ n. get_or left n 0) (sym place) ∙ c.swap_remove.ensures.by_index.0 0 (omega (arith, h, len, place)) ∙ ap (λ n. get_or q (n - 1) 0) len in
    let same : (k : ℕ) → (k ≡ length s.since.items → ⊥) → k + 1 < length q → get_or left k 0 ≡ get_or q k 0 = λ k n h.
    c.swap_remove.ensures.by_index.1 k 0 (λ z. n (z ∙ place)) (omega (arith, h, len)) in
    watch_unqueued cs t s.walked s.watches.items s.lists q s.since.items w left c.requires less last same guard
