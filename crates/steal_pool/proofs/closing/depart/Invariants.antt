use Rattle.std.proofs.Common.{length}
use Rattle.steal_pool.proofs.Partings.{Half}
use Rattle.steal_pool.proofs.closing.depart.Given as goal

abbrev pub invariant-loop-pass : goal.invariant-loop-pass
invariant-loop-pass l = Half l.initial.others.items l.initial.seat l.others.items l.seat

abbrev pub decreases-loop-pass : goal.decreases-loop-pass
decreases-loop-pass l = length l.seat.below.items
