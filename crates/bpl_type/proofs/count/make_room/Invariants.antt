use Rattle.std.proofs.Common.{◌≡◌, ◌-◌, ℕ, suc, length}
use Rattle.bpl_type.specs.Counts.{sloped}
use Rattle.bpl_type.proofs.count.make_room.Given as goal

abbrev pub invariant-loop-slopes : goal.invariant-loop-slopes
invariant-loop-slopes l = (i : ℕ) (v : ℕ → ℕ) → sloped l.slopes i v ≡ sloped l.initial.slopes i v

abbrev pub decreases-loop-slopes : goal.decreases-loop-slopes
decreases-loop-slopes l = suc l.local - length l.slopes
