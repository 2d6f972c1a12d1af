use Rattle.sat_watch.proofs.Watched.{watch_room}
use Rattle.sat_watch.proofs.watcher.Watcher.make_room.Goals as goal

pub returns-clause-watching : goal.returns-clause-watching
returns-clause-watching c = λ cs t w.
    let s = c.args.self.now in
    rw c.in_ok-push.ensures.items (watch_room cs t s.walked s.watches.items s.lists s.queue.items s.since.items w c.unwatched.result c.unwatched.ensures)
