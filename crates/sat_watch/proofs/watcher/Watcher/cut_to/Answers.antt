use Rattle.std.proofs.Common.{◌≡◌, ℕ, ◌<◌, ◌≤◌, length, get_or}
use Rattle.sat_watch.proofs.Watched.{watch_cut}
use Rattle.sat_watch.proofs.watcher.Watcher.cut_to.Goals as goal

pub returns : goal.returns
returns c = λ cs t w.
    let s = c.args.self.now in
    let m = c.count_low-kept.result in
    let e : c.deref.result.now ≡ s.since.items = c.deref.ensures.value in
    let few : m ≤ length s.since.items = rw e at c.count_low-kept.ensures.within in
    let low : (i : ℕ) → i < m → get_or s.since.items i 0 ≤ c.args.count = rw e at c.count_low-kept.ensures.low in
    rw (c.cut_to.ensures, c.truncate.ensures.items) (watch_cut cs t s.walked s.watches.items s.lists s.queue.items s.since.items w c.args.count m few low)
