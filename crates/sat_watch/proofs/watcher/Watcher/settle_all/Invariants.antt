use Rattle.std.proofs.Common.{◌≡◌, ◌-◌, length}
use Rattle.sat_watch.specs.Watching.{IsWatching}
use Rattle.sat_watch.proofs.watcher.Watcher.settle_all.Given as goal

abbrev pub invariant-loop-self : goal.invariant-loop-self
invariant-loop-self l = record {
  watching : IsWatching l.clauses l.trail l.self;
  walked : l.self.walked ≡ l.fn.self.walked;
}

abbrev pub decreases-loop-self : goal.decreases-loop-self
decreases-loop-self l = length l.self.queue.items - length l.self.since.items
