use Rattle.frontier.proofs.Lists.{lists_pushed}
use Rattle.frontier.proofs.callees.lists_of.Goals as goal

pub loop-q-preserved : goal.loop-q-preserved
loop-q-preserved c =
    lists_pushed c.args.procs.now c.loop-q.q-index c.q-item.result c.as_slice.result.now c.in_ok-callees_in.field-0 c.loop-q.lists.items c.push.new.self.items c.loop-q-test.true c.q-item.is c.as_slice.ensures
    (c.in_ok-callees_in.ensures {u = tt}) c.loop-q.invariant (c.in_ok-push.ensures {u = tt}).items
