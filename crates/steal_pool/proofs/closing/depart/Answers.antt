use Rattle.std.proofs.Common.{ℕ, subst, sym, refl, ◌∙◌, [], ◌∷◌, length-append, set, arith}
use Rattle.crossbeam_deque.specs.Handles.{IsPassOf}
use Rattle.steal_pool.specs.declared.seats.Seat.{Seat}
use Rattle.steal_pool.specs.Seats.{Deque}
use Rattle.steal_pool.proofs.Moves.{merges_at, learns_at}
use Rattle.steal_pool.proofs.Partings.{Half, starts, in_range, here_of, empty_of, pass_thief, port_is, has_part, has_above, last_thief, half_step, parts_all, departs}
use Rattle.steal_pool.proofs.closing.depart.Goals as goal

pub loop-pass-init : goal.loop-pass-init
loop-pass-init c = starts c.args.others.now.items c.args.seat c.requires

pub index_mut-other-requires : goal.index_mut-other-requires
index_mut-other-requires c =
    let n = in_range c.args.others.now.items c.args.seat c.requires c.loop-pass.others.items c.loop-pass.seat c.loop-pass.invariant c.pop.new.self.items c.in-Some.pass c.in-Some.ensures.items in
    omega (arith, c.len-at.ensures, c.pop.new.self.ok.0, c.loop-pass.others.ok.0, n)

pub part-last-requires-clause-own : goal.part-last-requires-clause-own
part-last-requires-clause-own c = let h = (here_of c.args.others.now.items c.args.seat c.requires c.loop-pass.others.items c.loop-pass.seat c.loop-pass.invariant c.pop.new.self.items c.in-Some.pass c.in-Some.ensures.items c.len-at.result (c.len-at.ensures ∙ c.pop.new.self.ok.0) c.index_mut-other.result.now c.index_mut-other.ensures.value) in (port_is c.args.others.now.items c.args.seat c.requires c.loop-pass.others.items c.loop-pass.seat c.loop-pass.invariant c.pop.new.self.items c.in-Some.pass c.in-Some.ensures.items _ h, has_part c.args.others.now.items c.args.seat c.requires c.loop-pass.others.items c.loop-pass.seat c.loop-pass.invariant c.pop.new.self.items c.in-Some.pass c.in-Some.ensures.items _ h)

pub part-last-requires-clause-pass : goal.part-last-requires-clause-pass
part-last-requires-clause-pass c = pass_thief c.args.others.now.items c.args.seat c.requires c.loop-pass.others.items c.loop-pass.seat c.loop-pass.invariant c.pop.new.self.items c.in-Some.pass c.in-Some.ensures.items _ (here_of c.args.others.now.items c.args.seat c.requires c.loop-pass.others.items c.loop-pass.seat c.loop-pass.invariant c.pop.new.self.items c.in-Some.pass c.in-Some.ensures.items c.len-at.result (c.len-at.ensures ∙ c.pop.new.self.ok.0) c.index_mut-other.result.now c.index_mut-other.ensures.value)

pub part-last-requires-clause-last : goal.part-last-requires-clause-last
part-last-requires-clause-last c = has_above c.args.others.now.items c.args.seat c.requires c.loop-pass.others.items c.loop-pass.seat c.loop-pass.invariant c.pop.new.self.items c.in-Some.pass c.in-Some.ensures.items _ (here_of c.args.others.now.items c.args.seat c.requires c.loop-pass.others.items c.loop-pass.seat c.loop-pass.invariant c.pop.new.self.items c.in-Some.pass c.in-Some.ensures.items c.len-at.result (c.len-at.ensures ∙ c.pop.new.self.ok.0) c.index_mut-other.result.now c.index_mut-other.ensures.value)

pub absorb-requires-clause-table : goal.absorb-requires-clause-table
absorb-requires-clause-table c =
    let t = last_thief c.args.others.now.items c.args.seat c.requires c.loop-pass.others.items c.loop-pass.seat c.loop-pass.invariant c.pop.new.self.items c.in-Some.pass c.in-Some.ensures.items _ (here_of c.args.others.now.items c.args.seat c.requires c.loop-pass.others.items c.loop-pass.seat c.loop-pass.invariant c.pop.new.self.items c.in-Some.pass c.in-Some.ensures.items c.len-at.result (c.len-at.ensures ∙ c.pop.new.self.ok.0) c.index_mut-other.result.now c.index_mut-other.ensures.value) _ c.part-last.result c.part-last.ensures in
    subst (λ (d : Deque). IsPassOf d c.part-last.result) (sym c.loop-pass.invariant.deque) t.0

pub absorb-requires-clause-rule : goal.absorb-requires-clause-rule
absorb-requires-clause-rule c = merges_at _ _ _ _ c.loop-pass.invariant.port (omega (arith, c.loop-pass.invariant.parts, c.loop-pass.invariant.few, c.requires.0, length-append c.args.others.now.items (c.args.seat ∷ [])))

pub loop-pass-preserved : goal.loop-pass-preserved
loop-pass-preserved c =
    let place = c.len-at.ensures ∙ c.pop.new.self.ok.0 in
    let now : Seat = record c.loop-pass.seat { owner = c.absorb.new.self; below = c.pop.new.self } in
    let h = half_step c.args.others.now.items c.args.seat c.requires c.loop-pass.others.items c.loop-pass.seat c.loop-pass.invariant c.pop.new.self.items c.in-Some.pass c.in-Some.ensures.items _ (here_of c.args.others.now.items c.args.seat c.requires c.loop-pass.others.items c.loop-pass.seat c.loop-pass.invariant c.pop.new.self.items c.in-Some.pass c.in-Some.ensures.items c.len-at.result (c.len-at.ensures ∙ c.pop.new.self.ok.0) c.index_mut-other.result.now c.index_mut-other.ensures.value) c.part-last.new.seat c.part-last.result c.part-last.ensures now refl c.absorb.ensures.same.0.0 c.absorb.ensures.same.0.2 c.absorb.ensures.rule in
    subst (λ (n : ℕ). Half c.args.others.now.items c.args.seat (set c.loop-pass.others.items n c.part-last.new.seat) now) (sym place) h

pub len_as-requires : goal.len_as-requires
len_as-requires c = learns_at _ _ c.loop-pass.invariant.port (parts_all c.args.others.now.items c.args.seat c.requires c.loop-pass.others.items c.loop-pass.seat c.loop-pass.invariant (empty_of c.loop-pass.seat.below.items (sym c.loop-pass.seat.below.ok.0 ∙ c.in_default.ensures.cases.0)))

pub returns : goal.returns
returns c = departs c.args.others.now.items c.args.seat c.requires c.loop-pass.others.items c.loop-pass.seat c.loop-pass.invariant (empty_of c.loop-pass.seat.below.items (sym c.loop-pass.seat.below.ok.0 ∙ c.in_default.ensures.cases.0)) c.len_as.result c.len_as.ensures.rule
