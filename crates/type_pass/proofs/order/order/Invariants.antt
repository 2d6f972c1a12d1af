use Rattle.std.proofs.Common.{◌-◌, length}
use Rattle.type_pass.specs.Orders.{IsSorting}
use Rattle.type_pass.proofs.order.order.Given as goal

abbrev pub invariant-rounds : goal.invariant-rounds
invariant-rounds l = IsSorting l.graph l.sorting.order.items l.sorting.done.items l.sorting.next.items

abbrev pub decreases-rounds : goal.decreases-rounds
decreases-rounds l = length l.graph - length l.sorting.order.items
