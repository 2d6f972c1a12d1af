use Rattle.flat_prog.proofs.Searching.{visits_on}
use Rattle.flat_prog.proofs.ordering.all_visits.Goals as goal

pub loop-block-preserved : goal.loop-block-preserved
loop-block-preserved c = visits_on c.loop-block.visits c.push.new.self c.loop-block.block c.in_ok-small.field-0 c.loop-block.invariant c.in_ok-small.ensures c.in_ok-push.ensures.ok
