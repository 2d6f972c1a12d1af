use Rattle.std.proofs.Common.{◌≡◌, length}
use Rattle.value_tests.proofs.circuits.bits_of.Given as goal

abbrev pub invariant-loop-i : goal.invariant-loop-i
invariant-loop-i l = length l.bits.items ≡ l.i
