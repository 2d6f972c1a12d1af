use Rattle.std.proofs.Common.{◌≤◌, ◌-◌, length}
use Rattle.bpl_type.proofs.tallies.no_tallies.Given as goal

abbrev pub invariant-loop-alloc : goal.invariant-loop-alloc
invariant-loop-alloc l = length l.tallies ≤ l.count

abbrev pub decreases-loop-alloc : goal.decreases-loop-alloc
decreases-loop-alloc l = l.count - length l.tallies
