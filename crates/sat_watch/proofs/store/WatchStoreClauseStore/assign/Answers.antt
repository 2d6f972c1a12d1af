use Rattle.std.proofs.Common.{rules}
use Rattle.sat_watch.proofs.Watched.{watch_assigned}
use Rattle.sat_watch.proofs.store.WatchStoreClauseStore.assign.Goals as goal

pub invariant_of-self-2 : goal.invariant_of-self-2
invariant_of-self-2 c =
    let s = c.self.inside in
    let w = s.watcher in
    let next = watch_assigned s.clauses s.trail w.walked w.watches.items w.lists w.queue.items w.since.items c.self.invariant c.args.lit (search rules) (search rules) in
    rw c.in_ok-push.ensures.ok next
