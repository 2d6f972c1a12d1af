use Rattle.std.proofs.Common.{length}
use Rattle.map_axioms.specs.Steps.{AllParts}
use Rattle.map_axioms.proofs.row.next.Given as goal

abbrev pub invariant-left : goal.invariant-left
invariant-left l = AllParts l.nodes l.map l.left

abbrev pub decreases-left : goal.decreases-left
decreases-left l = length l.left
