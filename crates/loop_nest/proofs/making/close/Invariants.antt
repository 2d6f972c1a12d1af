use Rattle.std.proofs.Common.{◌≡◌, ◌≤◌, ℕ, vec_len}
use Rattle.loop_nest.specs.Listed.{inner}
use Rattle.loop_nest.proofs.making.close.Given as goal

abbrev pub invariant-loop-last : goal.invariant-loop-last
invariant-loop-last l = (b : ℕ) → l.head ≤ b → inner l.opened.items b ≡ inner l.initial.opened.items b

abbrev pub decreases-loop-last : goal.decreases-loop-last
decreases-loop-last l = vec_len l.opened
