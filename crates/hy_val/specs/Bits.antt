-- The operators of SMT-LIB 2.6 on bit vectors (theory FixedSizeBitVectors, and the signed and comparison operators
-- that logic QF_BV defines from it), as arithmetic on whole numbers.
-- w is the width of the operands, from 1 to 64, and a and b are the operands as numbers from 0 to 2^w - 1.
-- What is computed is taken modulo 2^w.
use Rattle.std.specs.Prelude.{ℕ, ◌+◌, ◌-◌, ◌*◌, ◌/◌, ◌%◌, ◌^◌, Bool, true, false, nat_eq, nat_lt, nat_le, if◌then◌else◌, bit_and, bit_or, bit_xor, ℤ, pos, ◌-ℤ◌, int_lt, int_le}

-- the highest bit, the sign bit, is 1
abbrev pub is_negative : ℕ → ℕ → Bool
is_negative w a = nat_le (2 ^ (w - 1)) a

-- the number from -2^(w-1) to 2^(w-1) - 1 that the bits stand for in two's complement
abbrev pub signed_value : ℕ → ℕ → ℤ
signed_value w a = if is_negative w a then pos a -ℤ pos (2 ^ w) else pos a

-- each bit turned
abbrev pub bvnot : ℕ → ℕ → ℕ
bvnot w a = 2 ^ w - 1 - a

abbrev pub bvneg : ℕ → ℕ → ℕ
bvneg w a = (2 ^ w - a) % 2 ^ w

-- the and, the or, and the difference of each two bits at one place
abbrev pub bvand : ℕ → ℕ → ℕ → ℕ
bvand w a b = bit_and a b

abbrev pub bvor : ℕ → ℕ → ℕ → ℕ
bvor w a b = bit_or a b

abbrev pub bvxor : ℕ → ℕ → ℕ → ℕ
bvxor w a b = bit_xor a b

abbrev pub bvadd : ℕ → ℕ → ℕ → ℕ
bvadd w a b = (a + b) % 2 ^ w

abbrev pub bvsub : ℕ → ℕ → ℕ → ℕ
bvsub w a b = (a + (2 ^ w - b)) % 2 ^ w

abbrev pub bvmul : ℕ → ℕ → ℕ → ℕ
bvmul w a b = a * b % 2 ^ w

-- the quotient, and all ones for a division by zero
abbrev pub bvudiv : ℕ → ℕ → ℕ → ℕ
bvudiv w a b = if nat_eq b 0 then 2 ^ w - 1 else a / b

-- the remainder, and the dividend for a division by zero
abbrev pub bvurem : ℕ → ℕ → ℕ → ℕ
bvurem w a b = if nat_eq b 0 then a else a % b

-- the absolute value; that of -2^(w-1) has the same bits
abbrev pub absolute : ℕ → ℕ → ℕ
absolute w a = if is_negative w a then bvneg w a else a

-- a, negated where the flag is set
abbrev pub negated_if : Bool → ℕ → ℕ → ℕ
negated_if true w a = bvneg w a
negated_if false w a = a

-- the quotient of the absolute values, negated where the signs differ
abbrev pub signs_differ : Bool → Bool → Bool
signs_differ true true = false
signs_differ true false = true
signs_differ false true = true
signs_differ false false = false

abbrev pub bvsdiv : ℕ → ℕ → ℕ → ℕ
bvsdiv w a b = negated_if (signs_differ (is_negative w a) (is_negative w b)) w (bvudiv w (absolute w a) (absolute w b))

-- the remainder of the absolute values, with the sign of the dividend
abbrev pub bvsrem : ℕ → ℕ → ℕ → ℕ
bvsrem w a b = negated_if (is_negative w a) w (bvurem w (absolute w a) (absolute w b))

-- the remainder with the sign of the divisor, by cases on the signs of a and b, where u is the remainder of the absolute values
abbrev pub bvsmod_of : Bool → Bool → ℕ → ℕ → ℕ → ℕ
bvsmod_of false false w b u = u
bvsmod_of true false w b u = bvsub w b u
bvsmod_of false true w b u = bvadd w u b
bvsmod_of true true w b u = bvneg w u

abbrev pub bvsmod : ℕ → ℕ → ℕ → ℕ
bvsmod w a b =
    let u = bvurem w (absolute w a) (absolute w b) in
    if nat_eq u 0 then 0 else bvsmod_of (is_negative w a) (is_negative w b) w b u

-- shifts by the number b; from w on no bit of a is left
abbrev pub bvshl : ℕ → ℕ → ℕ → ℕ
bvshl w a b = if nat_lt b w then a * 2 ^ b % 2 ^ w else 0

abbrev pub bvlshr : ℕ → ℕ → ℕ → ℕ
bvlshr w a b = if nat_lt b w then a / 2 ^ b else 0

-- the shift to the right that copies the sign bit: of a negative number the complement is shifted
abbrev pub bvashr : ℕ → ℕ → ℕ → ℕ
bvashr w a b = if is_negative w a then bvnot w (bvlshr w (bvnot w a) b) else bvlshr w a b

abbrev pub bvult : ℕ → ℕ → ℕ → Bool
bvult w a b = nat_lt a b

abbrev pub bvule : ℕ → ℕ → ℕ → Bool
bvule w a b = nat_le a b

abbrev pub bvslt : ℕ → ℕ → ℕ → Bool
bvslt w a b = int_lt (signed_value w a) (signed_value w b)

abbrev pub bvsle : ℕ → ℕ → ℕ → Bool
bvsle w a b = int_le (signed_value w a) (signed_value w b)

-- a in the high bits, and in the v low ones b, whose width is v
abbrev pub concat : ℕ → ℕ → ℕ → ℕ
concat v a b = a * 2 ^ v + b

-- the bits from lo up to hi - 1
abbrev pub extract : ℕ → ℕ → ℕ → ℕ
extract hi lo a = a / 2 ^ lo % 2 ^ (hi - lo)

-- k copies of the sign bit above
abbrev pub sign_extend : ℕ → ℕ → ℕ → ℕ
sign_extend w k a = if is_negative w a then a + (2 ^ (w + k) - 2 ^ w) else a
