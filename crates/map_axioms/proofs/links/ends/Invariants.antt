use Rattle.std.proofs.Common.{◌≤◌, ◌-◌, length}
use Rattle.map_axioms.proofs.links.ends.Given as goal

abbrev pub invariant-fill : goal.invariant-fill
invariant-fill l = length l.ends ≤ l.count

abbrev pub decreases-fill : goal.decreases-fill
decreases-fill l = l.count - length l.ends
