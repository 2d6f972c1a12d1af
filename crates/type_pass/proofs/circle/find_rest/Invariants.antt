use Rattle.std.proofs.Common.{◌-◌, length}
use Rattle.type_pass.specs.Circles.{Searching}
use Rattle.type_pass.proofs.circle.find_rest.Given as goal

abbrev pub invariant-loop-head : goal.invariant-loop-head
invariant-loop-head l = Searching l.graph l.node l.head l.found.nodes.items l.found.seen.items

abbrev pub decreases-loop-head : goal.decreases-loop-head
decreases-loop-head l = length l.graph - l.head
