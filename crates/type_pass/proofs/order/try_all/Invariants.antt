use Rattle.type_pass.specs.Orders.{Grows, AreStuck}
use Rattle.type_pass.proofs.order.try_all.Given as goal

abbrev pub invariant-loop-node : goal.invariant-loop-node
invariant-loop-node l =
    Grows l.graph l.initial.sorting.order.items l.sorting.order.items l.sorting.done.items l.sorting.next.items
    × AreStuck l.graph l.node l.initial.sorting.order.items l.sorting.order.items
