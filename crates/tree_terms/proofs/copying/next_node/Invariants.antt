use Rattle.std.proofs.Common.{◌-◌, length}
use Rattle.tree_terms.specs.Copying.{MayGo}
use Rattle.tree_terms.proofs.copying.next_node.Given as goal

abbrev pub invariant-down : goal.invariant-down
invariant-down l = MayGo l.q l.places l.at

abbrev pub decreases-down : goal.decreases-down
decreases-down l = length l.q.tree - l.at
