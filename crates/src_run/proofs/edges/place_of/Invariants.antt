use Rattle.std.proofs.Common.{◌≡◌, ◌≤◌, ◌-◌, false, length, drop, slice_get}
use Rattle.src_run.specs.Edges.{is_below}
use Rattle.src_run.specs.Machine.{entry_of}
use Rattle.src_run.proofs.edges.place_of.Given as goal

abbrev pub invariant-loop-low : goal.invariant-loop-low
invariant-loop-low l = record {
  ordered : l.low ≤ l.high;
  within : l.high ≤ length l.loops;
  skips : entry_of (drop l.low l.loops) l.to ≡ entry_of l.loops l.to;
  above : is_below l.to (slice_get l.loops l.high) ≡ false;
}

abbrev pub decreases-loop-low : goal.decreases-loop-low
decreases-loop-low l = l.high - l.low
