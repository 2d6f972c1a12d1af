use Rattle.std.proofs.Common.{◌-◌, length}
use Rattle.sat_watch.specs.Watching.{IsWatching}
use Rattle.sat_watch.proofs.watcher.Watcher.next.Given as goal

abbrev pub invariant-literals : goal.invariant-literals
invariant-literals l = IsWatching l.clauses l.trail l.self

abbrev pub decreases-literals : goal.decreases-literals
decreases-literals l = length l.trail - length l.self.walked
