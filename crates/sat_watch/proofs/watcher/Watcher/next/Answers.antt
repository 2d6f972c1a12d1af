use Rattle.std.proofs.Common.{◌≡◌, length}
use Rattle.sat_watch.proofs.Watched.{watch_none}
use Rattle.sat_watch.proofs.watcher.Watcher.next.Goals as goal

pub returns-then-not-branch-clause-seen : goal.returns-then-not-branch-clause-seen
returns-then-not-branch-clause-seen c =
    let n = c.settle_all.new.self in
    let t = c.args.trail.now in
    let all : length n.walked ≡ length t = c.in_ok-walk_next.ensures.all c.if-not-branch.true in
    let done : length n.since.items ≡ length n.queue.items = rw c.in_default.is at c.in_ok-seen.ensures.done in
    watch_none c.args.clauses.now t n.walked n.watches.items n.lists n.queue.items n.since.items c.settle_all.ensures.watching all done
