use Rattle.std.proofs.Common.{sym, ◌∙◌, ap}
use Rattle.std.specs.Option.{option_copied}
use Rattle.type_pass.proofs.OrderLaws.{halt-step, place-step}
use Rattle.type_pass.proofs.order.try_node.Goals as goal

pub returns-then-edge-edges-clause-grows : goal.returns-then-edge-edges-clause-grows
returns-then-edge-edges-clause-grows c =
    halt-step c.halt.result c.args.graph.now c.args.sorting.now.order.items c.halt.new.sorting.order.items c.args.sorting.now.done.items c.as_slice-3.result.now c.halt.new.sorting.done.items
    c.args.sorting.now.next.items c.as_slice-2.result.now c.halt.new.sorting.next.items c.args.node c.first_open-edge.result c.passed-from.result c.as_slice-edges.result.now c.in-Some.edges.now
    c.requires (sym c.at.ensures ∙ ap option_copied c.in-Some.is) c.as_slice-edges.ensures c.as_slice-3.ensures.value c.as_slice-2.ensures.value c.passed-from.ensures
    c.first_open-edge.ensures.within c.first_open-edge.ensures.passed c.halt.ensures.order c.halt.ensures.done c.halt.ensures.next

pub returns-else-edge-edges-clause-grows : goal.returns-else-edge-edges-clause-grows
returns-else-edge-edges-clause-grows c =
    place-step c.place.result c.args.graph.now c.args.sorting.now.order.items c.place.new.sorting.order.items c.args.sorting.now.done.items c.as_slice-3.result.now c.as_slice.result.now c.place.new.sorting.done.items
    c.args.sorting.now.next.items c.as_slice-2.result.now c.place.new.sorting.next.items c.args.node c.first_open-edge.result c.passed-from.result c.as_slice-edges.result.now c.in-Some.edges.now
    c.requires (sym c.at.ensures ∙ ap option_copied c.in-Some.is) c.as_slice-edges.ensures c.as_slice-3.ensures.value c.as_slice.ensures.value c.as_slice-2.ensures.value c.passed-from.ensures
    c.if-edge-edges.false (sym c.is_done.ensures ∙ c.if-is_done.false) c.first_open-edge.ensures.passed c.place.ensures.order c.place.ensures.done c.place.ensures.next
