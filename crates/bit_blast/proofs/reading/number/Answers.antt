use Rattle.std.proofs.Common.{arith}
use Rattle.bit_blast.proofs.FromBits.{high_bits}
use Rattle.bit_blast.proofs.reading.number.Goals as goal

pub overflow_mul-number : goal.overflow_mul-number
overflow_mul-number c = omega (arith, high_bits c.args.bits.now c.loop-i.i c.loop-i-test.true c.requires, c.loop-i.invariant)

pub overflow_add-number : goal.overflow_add-number
overflow_add-number c = omega (arith, high_bits c.args.bits.now c.loop-i.i c.loop-i-test.true c.requires, c.loop-i.invariant, c.bit.ensures.small)
