use Rattle.std.proofs.Common.{◌∙◌, ap, List, length, get_or, arith}
use Rattle.steal_pool.specs.declared.seats.Seat.{Seat}
use Rattle.steal_pool.proofs.Counts.{put_fits, popped_fits, counts_on}
use Rattle.steal_pool.proofs.closing.counted.Goals as goal

pub overflow_add-put : goal.overflow_add-put
overflow_add-put c = let h = put_fits c.args.seats.now.items c.loop-seat.seat-index c.loop-seat.put c.loop-seat.popped c.seat-item.result c.requires (omega (arith, c.loop-seat-test.true, c.deref-seat-items.ensures.len, ap length c.deref-seat-items.ensures.value)) (c.seat-item.is ∙ ap (λ (l : List Seat). get_or l c.loop-seat.seat-index c.seat-item.result) c.deref-seat-items.ensures.value) c.loop-seat.invariant in omega arith

pub overflow_add-popped : goal.overflow_add-popped
overflow_add-popped c = let h = popped_fits c.args.seats.now.items c.loop-seat.seat-index c.loop-seat.put c.loop-seat.popped c.seat-item.result c.requires (omega (arith, c.loop-seat-test.true, c.deref-seat-items.ensures.len, ap length c.deref-seat-items.ensures.value)) (c.seat-item.is ∙ ap (λ (l : List Seat). get_or l c.loop-seat.seat-index c.seat-item.result) c.deref-seat-items.ensures.value) c.loop-seat.invariant in omega arith

pub loop-seat-preserved : goal.loop-seat-preserved
loop-seat-preserved c = counts_on c.args.seats.now.items c.loop-seat.seat-index c.loop-seat.put c.loop-seat.popped c.seat-item.result c.requires (omega (arith, c.loop-seat-test.true, c.deref-seat-items.ensures.len, ap length c.deref-seat-items.ensures.value)) (c.seat-item.is ∙ ap (λ (l : List Seat). get_or l c.loop-seat.seat-index c.seat-item.result) c.deref-seat-items.ensures.value) c.loop-seat.invariant
