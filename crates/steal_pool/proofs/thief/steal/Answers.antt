use Rattle.std.proofs.Common.{refl}
use Rattle.steal_pool.proofs.Passes.{deque_at}
use Rattle.steal_pool.proofs.Steals.{below_thief, below_within, below_seat, below_grows, below_else, above_place, above_thief, above_within, above_seat, above_grows, above_else}
use Rattle.steal_pool.proofs.thief.steal.Goals as goal

pub steal_at-requires-clause-pass : goal.steal_at-requires-clause-pass
steal_at-requires-clause-pass c = below_thief _ c.args.seat.now _ _ c.requires.seat.0 (deque_at _ _ _ c.requires.victim.0 c.index-thief.ensures) c.if-victim-seat.true

pub steal_at-requires-clause-at : goal.steal_at-requires-clause-at
steal_at-requires-clause-at c = below_within _ c.args.seat.now _ _ c.requires.seat.0 (deque_at _ _ _ c.requires.victim.0 c.index-thief.ensures) c.if-victim-seat.true

pub returns-then-victim-seat-clause-seat : goal.returns-then-victim-seat-clause-seat
returns-then-victim-seat-clause-seat c =
    let here = deque_at _ _ _ c.requires.victim.0 c.index-thief.ensures in
    ((below_seat _ c.args.seat.now c.args.victim _ c.steal_at.result c.requires.seat.0 here c.steal_at.new.passes c.if-victim-seat.true c.steal_at.ensures, c.requires.seat.1, c.requires.seat.2), (refl, refl, refl, refl))

pub returns-then-victim-seat-clause-stolen : goal.returns-then-victim-seat-clause-stolen
returns-then-victim-seat-clause-stolen c =
    let here = deque_at _ _ _ c.requires.victim.0 c.index-thief.ensures in
    below_grows _ c.args.seat.now c.args.victim _ c.steal_at.result c.requires.seat.0 here c.steal_at.new.passes c.if-victim-seat.true c.steal_at.ensures

pub returns-then-victim-seat-clause-others : goal.returns-then-victim-seat-clause-others
returns-then-victim-seat-clause-others c =
    let here = deque_at _ _ _ c.requires.victim.0 c.index-thief.ensures in
    below_else _ c.args.seat.now c.args.victim _ c.steal_at.result c.requires.seat.0 here c.steal_at.new.passes c.if-victim-seat.true c.steal_at.ensures

pub steal_at-requires-2-clause-pass : goal.steal_at-requires-2-clause-pass
steal_at-requires-2-clause-pass c = above_thief _ c.args.seat.now _ _ c.requires.seat.0 (deque_at _ _ _ c.requires.victim.0 c.index-thief.ensures) c.if-victim-seat.false c.requires.victim.1

pub steal_at-requires-2-clause-at : goal.steal_at-requires-2-clause-at
steal_at-requires-2-clause-at c = above_within _ c.args.seat.now _ _ c.requires.seat.0 (deque_at _ _ _ c.requires.victim.0 c.index-thief.ensures) c.if-victim-seat.false c.requires.victim.1

pub returns-clause-seat : goal.returns-clause-seat
returns-clause-seat c =
    let here = deque_at _ _ _ c.requires.victim.0 c.index-thief.ensures in
    ((above_seat _ c.args.seat.now c.args.victim _ c.steal_at-2.result c.requires.seat.0 here c.steal_at-2.new.passes _ (above_place _ _ c.if-victim-seat.false c.requires.victim.1) c.steal_at-2.ensures, c.requires.seat.1, c.requires.seat.2), (refl, refl, refl, refl))

pub returns-clause-stolen : goal.returns-clause-stolen
returns-clause-stolen c =
    let here = deque_at _ _ _ c.requires.victim.0 c.index-thief.ensures in
    above_grows _ c.args.seat.now c.args.victim _ c.steal_at-2.result c.requires.seat.0 here c.steal_at-2.new.passes _ (above_place _ _ c.if-victim-seat.false c.requires.victim.1) c.steal_at-2.ensures

pub returns-clause-others : goal.returns-clause-others
returns-clause-others c =
    let here = deque_at _ _ _ c.requires.victim.0 c.index-thief.ensures in
    above_else _ c.args.seat.now c.args.victim _ c.steal_at-2.result c.requires.seat.0 here c.steal_at-2.new.passes _ (above_place _ _ c.if-victim-seat.false c.requires.victim.1) c.steal_at-2.ensures
