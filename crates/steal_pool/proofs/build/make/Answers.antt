use Rattle.std.proofs.Common.{arith}
use Rattle.steal_pool.proofs.Meetings.{made, all_unused, all_roomy}
use Rattle.steal_pool.proofs.build.make.Goals as goal

pub returns-clause-seats : goal.returns-clause-seats
returns-clause-seats c =
    let all = made _ c.loop-number.all.items c.loop-number.invariant.0 c.loop-number.invariant.1 in
    (all, omega (arith, all.count, c.loop-number.invariant.2, c.loop-number-test.false, c.loop-number.auto.number-end))

pub returns-clause-unused : goal.returns-clause-unused
returns-clause-unused c = all_unused c.loop-number.all.items c.loop-number.invariant.0

pub returns-clause-room : goal.returns-clause-room
returns-clause-room c = all_roomy c.loop-number.all.items c.loop-number.invariant.0
