use Rattle.std.proofs.Common.{◌∙◌, arith}
use Rattle.steal_pool.proofs.Replacements.{here, replaced}
use Rattle.steal_pool.proofs.tests.steal_at_seat.Goals as goal

pub steal-requires-clause-seat : goal.steal-requires-clause-seat
steal-requires-clause-seat c = (here c.args.pool.now c.args.seats.now.items c.requires.all c.args.at c.index_mut-seat.result.now c.requires.at c.index_mut-seat.ensures.value).1

pub steal-requires-clause-victim : goal.steal-requires-clause-victim
steal-requires-clause-victim c =
    let h = here c.args.pool.now c.args.seats.now.items c.requires.all c.args.at c.index_mut-seat.result.now c.requires.at c.index_mut-seat.ensures.value in
    (omega (arith, c.requires.victim.0, c.requires.all.count), λ e. c.requires.victim.1 (e ∙ h.0))

pub returns-clause-all : goal.returns-clause-all
returns-clause-all c = replaced c.args.pool.now c.args.seats.now.items c.requires.all c.args.at c.index_mut-seat.result.now c.steal.new.seat c.requires.at c.index_mut-seat.ensures.value c.steal.ensures.seat.1.0 c.steal.ensures.seat.0
