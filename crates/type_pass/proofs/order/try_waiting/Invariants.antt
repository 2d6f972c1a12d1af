use Rattle.std.proofs.Common.{◌-◌, length}
use Rattle.type_pass.specs.Orders.{Grows}
use Rattle.type_pass.proofs.order.try_waiting.Given as goal

abbrev pub invariant-loop-head : goal.invariant-loop-head
invariant-loop-head l = Grows l.graph l.initial.sorting.order.items l.sorting.order.items l.sorting.done.items l.sorting.next.items

abbrev pub decreases-loop-head : goal.decreases-loop-head
decreases-loop-head l = length l.graph - l.head
