use Rattle.std.proofs.Common.{◌∷◌, [], ap, sym, ◌∙◌, subst, List, length, length-append, arith}
use Rattle.steal_pool.specs.declared.seats.Seat.{Seat}
use Rattle.steal_pool.specs.Closing.{Members}
use Rattle.steal_pool.proofs.Partings.{empty_of}
use Rattle.steal_pool.proofs.Drains.{Drained, begin, few_more, step, ends}
use Rattle.steal_pool.proofs.closing.drained.Goals as goal

pub loop-seat-init : goal.loop-seat-init
loop-seat-init c = begin c.args.seats.items c.requires.members c.requires.olds

pub depart-left-requires : goal.depart-left-requires
depart-left-requires c = subst Members c.in-Some.ensures.items c.loop-seat.invariant.members

pub overflow_add-left : goal.overflow_add-left
overflow_add-left c =
    let d = subst (λ (l : List Seat). Drained c.args.seats.items l c.loop-seat.left) c.in-Some.ensures.items c.loop-seat.invariant in
    let f = few_more c.args.seats.items c.requires.members c.pop.new.self.items c.in-Some.seat c.loop-seat.left d c.depart-left.new.others.items c.depart-left.result c.depart-left.ensures in
    omega (arith, f, d.room, c.requires.members.0, length-append c.pop.new.self.items (c.in-Some.seat ∷ []))

pub loop-seat-smaller : goal.loop-seat-smaller
loop-seat-smaller c = omega (arith, c.depart-left.ensures.count, ap length c.in-Some.ensures.items, length-append c.pop.new.self.items (c.in-Some.seat ∷ []))

pub loop-seat-preserved : goal.loop-seat-preserved
loop-seat-preserved c =
    let d = subst (λ (l : List Seat). Drained c.args.seats.items l c.loop-seat.left) c.in-Some.ensures.items c.loop-seat.invariant in
    step c.args.seats.items c.requires.members c.pop.new.self.items c.in-Some.seat c.loop-seat.left d c.depart-left.new.others.items c.depart-left.result c.depart-left.ensures

pub returns : goal.returns
returns c = ends c.args.seats.items c.loop-seat.seats.items c.loop-seat.left c.loop-seat.invariant (empty_of c.loop-seat.seats.items (sym c.loop-seat.seats.ok.0 ∙ c.in_default.ensures.cases.0))
