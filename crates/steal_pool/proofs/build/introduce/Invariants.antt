use Rattle.std.proofs.Common.{length, ◌-◌}
use Rattle.steal_pool.proofs.Meetings.{Joining}
use Rattle.steal_pool.proofs.build.introduce.Given as goal

abbrev pub invariant-loop-at : goal.invariant-loop-at
invariant-loop-at l = Joining l.initial.all.items l.initial.new l.at l.all.items l.new

abbrev pub decreases-loop-at : goal.decreases-loop-at
decreases-loop-at l = length l.initial.all.items - l.at
