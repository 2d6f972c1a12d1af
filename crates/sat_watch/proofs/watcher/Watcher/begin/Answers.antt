use Rattle.sat_watch.proofs.Watched.{watch_queued}
use Rattle.sat_watch.proofs.watcher.Watcher.begin.Goals as goal

pub returns-clause-watching : goal.returns-clause-watching
returns-clause-watching c = λ cs t w.
    let s = c.make_room.new.self in
    rw c.in_ok-push.ensures.items (watch_queued cs t s.walked s.watches.items s.lists s.queue.items s.since.items (c.make_room.ensures.watching cs t w) c.args.id)
