use Rattle.std.proofs.Common.{◌≤◌, length}
use Rattle.sat_watch.proofs.watcher.count_low.Given as goal

abbrev pub invariant-loop-count : goal.invariant-loop-count
invariant-loop-count l = l.count ≤ length l.numbers

abbrev pub decreases-loop-count : goal.decreases-loop-count
decreases-loop-count l = l.count
