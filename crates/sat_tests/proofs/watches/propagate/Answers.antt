use Rattle.sat_watch.proofs.Looking.{unit_not_true, unit_not_false}
use Rattle.sat_tests.proofs.watches.propagate.Goals as goal

pub assign-requires-clause-not_true : goal.assign-requires-clause-not_true
assign-requires-clause-not_true c =
    let seen = rw c.in-Unit.is at c.in_ok-lit.ensures.seen in
    rw c.next.ensures.assigned (unit_not_true c.loop.store.clauses c.loop.store.trail c.in-Unit.lit c.in-Unit.clause seen)

pub assign-requires-clause-not_false : goal.assign-requires-clause-not_false
assign-requires-clause-not_false c =
    let seen = rw c.in-Unit.is at c.in_ok-lit.ensures.seen in
    rw c.next.ensures.assigned (unit_not_false c.loop.store.clauses c.loop.store.trail c.in-Unit.lit c.in-Unit.clause seen)
