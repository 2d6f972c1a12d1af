use Rattle.steal_pool.proofs.Replacements.{here, replaced}
use Rattle.steal_pool.proofs.tests.pop_at.Goals as goal

pub pop-requires : goal.pop-requires
pop-requires c = (here c.args.pool.now c.args.seats.now.items c.requires.all c.args.at c.index_mut-seat.result.now c.requires.at c.index_mut-seat.ensures.value).1

pub returns-clause-all : goal.returns-clause-all
returns-clause-all c = replaced c.args.pool.now c.args.seats.now.items c.requires.all c.args.at c.index_mut-seat.result.now c.pop.new.seat c.requires.at c.index_mut-seat.ensures.value c.pop.ensures.seat.1.0 c.pop.ensures.seat.0
