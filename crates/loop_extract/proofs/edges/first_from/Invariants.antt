use Rattle.std.proofs.Common.{◌≡◌, ℕ, ◌<◌, ◌≤◌, ◌-◌, true, false, length, slice_get, Some}
use Rattle.extract_def.specs.declared.edge.Edge.{Edge}
use Rattle.loop_extract.specs.Orders.{is_before}
use Rattle.loop_extract.proofs.edges.first_from.Given as goal

abbrev pub invariant-loop-low : goal.invariant-loop-low
invariant-loop-low l = record {
  order : l.low ≤ l.high;
  within : l.high ≤ length l.edges;
  less : (k : ℕ) (e : Edge) → k < l.low → slice_get l.edges k ≡ Some e → is_before l.block l.place e ≡ true;
  more : (k : ℕ) (e : Edge) → l.high ≤ k → slice_get l.edges k ≡ Some e → is_before l.block l.place e ≡ false;
}

abbrev pub decreases-loop-low : goal.decreases-loop-low
decreases-loop-low l = l.high - l.low
