use Rattle.std.proofs.Common.{arith}
use Rattle.frontier.proofs.Counting.{number_pushed}
use Rattle.frontier.proofs.numbers.numbers.Goals as goal

pub loop-preserved : goal.loop-preserved
loop-preserved c =
    let next = c.loop.invariant.1 in
    let more = c.in_ok-next.ensures {u = tt} in (
      number_pushed c.args.first c.loop.counter c.loop.next c.loop.found.items c.push.new.self.items c.loop.invariant.0 next (c.in_ok-push.ensures {u = tt}).items,
      omega (arith, next, more),
    )
