use Rattle.std.proofs.Common.{vec_len}
use Rattle.hy_val.proofs.Keeping.{Remains}
use Rattle.hy_val.proofs.whole.copy_with.Given as goal

-- what is left to write makes the same of the map so far
abbrev pub invariant-loop-i : goal.invariant-loop-i
invariant-loop-i l = Remains l.m l.fn.writes.items l.map l.writes.items

abbrev pub decreases-loop-i : goal.decreases-loop-i
decreases-loop-i l = vec_len l.writes
