use Rattle.std.proofs.Common.{◌≡◌, ◌-◌, length, drop}
use Rattle.bit_blast.specs.Words.{number}
use Rattle.bit_blast.proofs.reading.number.Given as goal

-- the number of the highest bits
abbrev pub invariant-loop-i : goal.invariant-loop-i
invariant-loop-i l = l.number ≡ number (drop (length l.bits - l.i) l.bits)
