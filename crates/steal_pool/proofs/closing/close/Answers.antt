use Rattle.std.proofs.Common.{arith}
use Rattle.steal_pool.proofs.Counts.{counted_of, members_of, no_olds_of, whole_tally}
use Rattle.steal_pool.proofs.closing.close.Goals as goal

pub counted-put-requires : goal.counted-put-requires
counted-put-requires c = counted_of c.args.pool c.args.seats.items c.requires

pub drained-left-requires-clause-members : goal.drained-left-requires-clause-members
drained-left-requires-clause-members c = members_of c.args.pool c.args.seats.items c.requires

pub drained-left-requires-clause-olds : goal.drained-left-requires-clause-olds
drained-left-requires-clause-olds c = no_olds_of c.args.pool c.args.seats.items c.requires

pub overflow_sub-result : goal.overflow_sub-result
overflow_sub-result c = omega (arith, whole_tally c.args.seats.items c.drained-left.result c.drained-left.ensures, c.counted-put.ensures.put, c.counted-put.ensures.popped)

pub overflow_sub-result-2 : goal.overflow_sub-result-2
overflow_sub-result-2 c = omega (arith, whole_tally c.args.seats.items c.drained-left.result c.drained-left.ensures, c.counted-put.ensures.put, c.counted-put.ensures.popped)

pub returns-clause-stolen : goal.returns-clause-stolen
returns-clause-stolen c = omega (arith, whole_tally c.args.seats.items c.drained-left.result c.drained-left.ensures, c.counted-put.ensures.put, c.counted-put.ensures.popped)

pub returns-clause-whole : goal.returns-clause-whole
returns-clause-whole c = omega (arith, whole_tally c.args.seats.items c.drained-left.result c.drained-left.ensures, c.counted-put.ensures.put, c.counted-put.ensures.popped)
