use Rattle.std.proofs.Common.{◌≡◌, ℕ, ◌-◌, ◌<◌, ◌≤◌, length, get_or}
use Rattle.sat_watch.specs.Lists.{list_at}
use Rattle.sat_watch.specs.Watching.{IsWatching, IsHandled}
use Rattle.sat_watch.proofs.watcher.Watcher.walk.Given as goal

abbrev pub invariant-loop-at : goal.invariant-loop-at
invariant-loop-at l = record {
  watching : IsWatching l.clauses l.trail l.self;
  walked : l.self.walked ≡ l.fn.self.walked;
  within : l.at ≤ length (list_at l.self.lists l.lit);
  handled : (k : ℕ) → k < l.at → IsHandled l.self.queue.items l.self.walked l.self.watches.items l.lit (get_or (list_at l.self.lists l.lit) k 0);
}

abbrev pub decreases-loop-at : goal.decreases-loop-at
decreases-loop-at l = length (list_at l.self.lists l.lit) - l.at
