-- The circuits of operators: what they make of words as numbers, how wide the result is, and how many gates they take at most.
-- A bool is a word of one bit.
use Rattle.std.specs.Prelude.{ℕ, ◌+◌, ◌-◌, ◌*◌, Bool, true, not, nat_eq, nat_le, ◌&&◌}
use Rattle.hy_val.specs.Bits.{bvnot, bvneg, bvand, bvor, bvxor, bvadd, bvsub, bvmul, bvudiv, bvurem, bvsdiv, bvsrem, bvsmod, bvshl, bvlshr, bvashr, bvult, bvule, bvslt, bvsle, concat, extract, sign_extend}
use Rattle.hy_val.specs.declared.operator.UnOp.{UnOp}
use Rattle.hy_val.specs.declared.operator.UnOp.TheVariants.{Not, Extract, BvNot, BvNeg, ZeroExtend, SignExtend}
use Rattle.hy_val.specs.declared.operator.BvOp.{BvOp}
use Rattle.hy_val.specs.declared.operator.BvOp.TheVariants.{And, Or, Implies, Iff, Eq, Ne, Concat, BvAnd, BvOr, BvXor, BvAdd, BvSub, BvMul, BvUdiv, BvUrem, BvSdiv, BvSrem, BvSmod, BvShl, BvLshr, BvAshr, BvUlt, BvUle, BvUgt, BvUge, BvSlt, BvSle, BvSgt, BvSge}
use Rattle.bit_blast.specs.Words.{bit}
use Rattle.bit_blast.specs.declared.operator.Comparison.{Comparison}
use Rattle.bit_blast.specs.declared.operator.Comparison.TheVariants.{Equal, Unequal, Below, AtMost, SignedBelow, SignedAtMost}

-- whether two numbers of w bits compare so
abbrev pub compares : Comparison → ℕ → ℕ → ℕ → Bool
compares Equal w a b = nat_eq a b
compares Unequal w a b = not (nat_eq a b)
compares Below w a b = bvult w a b
compares AtMost w a b = bvule w a b
compares SignedBelow w a b = bvslt w a b
compares SignedAtMost w a b = bvsle w a b

abbrev pub comparison_gates : Comparison → ℕ → ℕ
comparison_gates Equal w = 2 * w + 3
comparison_gates Unequal w = 2 * w + 5
comparison_gates Below w = 4 * w + 3
comparison_gates AtMost w = 4 * w + 1
comparison_gates SignedBelow w = 4 * w + 7
comparison_gates SignedAtMost w = 4 * w + 5

-- the number that an operator makes of one of w bits
abbrev pub unary_number : UnOp → ℕ → ℕ → ℕ
unary_number Not w a = bvnot w a
unary_number (Extract hi lo) w a = extract hi lo a
unary_number BvNot w a = bvnot w a
unary_number BvNeg w a = bvneg w a
unary_number (ZeroExtend k) w a = a
unary_number (SignExtend k) w a = sign_extend w k a

abbrev pub unary_width : UnOp → ℕ → ℕ
unary_width Not w = w
unary_width (Extract hi lo) w = hi - lo
unary_width BvNot w = w
unary_width BvNeg w = w
unary_width (ZeroExtend k) w = w + k
unary_width (SignExtend k) w = w + k

abbrev pub unary_gates : UnOp → ℕ → ℕ
unary_gates Not w = w + 1
unary_gates (Extract hi lo) w = 0
unary_gates BvNot w = w + 1
unary_gates BvNeg w = 4 * w + 2
unary_gates (ZeroExtend k) w = 1
unary_gates (SignExtend k) w = 0

-- the bits that are taken are there
abbrev pub is_within : UnOp → ℕ → Bool
is_within Not w = true
is_within (Extract hi lo) w = nat_le lo hi && nat_le hi w
is_within BvNot w = true
is_within BvNeg w = true
is_within (ZeroExtend k) w = true
is_within (SignExtend k) w = true

-- the number that an operator makes of two, of v and of w bits
abbrev pub binary_number : BvOp → ℕ → ℕ → ℕ → ℕ → ℕ
binary_number And v w a b = bvand v a b
binary_number Or v w a b = bvor v a b
binary_number Implies v w a b = bvor v (bvnot v a) b
binary_number Iff v w a b = bit (nat_eq a b)
binary_number Eq v w a b = bit (nat_eq a b)
binary_number Ne v w a b = bit (not (nat_eq a b))
binary_number Concat v w a b = concat w a b
binary_number BvAnd v w a b = bvand v a b
binary_number BvOr v w a b = bvor v a b
binary_number BvXor v w a b = bvxor v a b
binary_number BvAdd v w a b = bvadd v a b
binary_number BvSub v w a b = bvsub v a b
binary_number BvMul v w a b = bvmul v a b
binary_number BvUdiv v w a b = bvudiv v a b
binary_number BvUrem v w a b = bvurem v a b
binary_number BvSdiv v w a b = bvsdiv v a b
binary_number BvSrem v w a b = bvsrem v a b
binary_number BvSmod v w a b = bvsmod v a b
binary_number BvShl v w a b = bvshl v a b
binary_number BvLshr v w a b = bvlshr v a b
binary_number BvAshr v w a b = bvashr v a b
binary_number BvUlt v w a b = bit (bvult v a b)
binary_number BvUle v w a b = bit (bvule v a b)
binary_number BvUgt v w a b = bit (bvult w b a)
binary_number BvUge v w a b = bit (bvule w b a)
binary_number BvSlt v w a b = bit (bvslt v a b)
binary_number BvSle v w a b = bit (bvsle v a b)
binary_number BvSgt v w a b = bit (bvslt w b a)
binary_number BvSge v w a b = bit (bvsle w b a)

abbrev pub binary_width : BvOp → ℕ → ℕ → ℕ
binary_width And v w = v
binary_width Or v w = v
binary_width Implies v w = v
binary_width Iff v w = 1
binary_width Eq v w = 1
binary_width Ne v w = 1
binary_width Concat v w = v + w
binary_width BvAnd v w = v
binary_width BvOr v w = v
binary_width BvXor v w = v
binary_width BvAdd v w = v
binary_width BvSub v w = v
binary_width BvMul v w = v
binary_width BvUdiv v w = v
binary_width BvUrem v w = v
binary_width BvSdiv v w = v
binary_width BvSrem v w = v
binary_width BvSmod v w = v
binary_width BvShl v w = v
binary_width BvLshr v w = v
binary_width BvAshr v w = v
binary_width BvUlt v w = 1
binary_width BvUle v w = 1
binary_width BvUgt v w = 1
binary_width BvUge v w = 1
binary_width BvSlt v w = 1
binary_width BvSle v w = 1
binary_width BvSgt v w = 1
binary_width BvSge v w = 1

abbrev pub binary_gates : BvOp → ℕ → ℕ → ℕ
binary_gates And v w = v
binary_gates Or v w = v
binary_gates Implies v w = 2 * v + 1
binary_gates Iff v w = 2 * v + 3
binary_gates Eq v w = 2 * v + 3
binary_gates Ne v w = 2 * v + 5
binary_gates Concat v w = 0
binary_gates BvAnd v w = v
binary_gates BvOr v w = v
binary_gates BvXor v w = v
binary_gates BvAdd v w = 3 * v + 1
binary_gates BvSub v w = 4 * v + 1
binary_gates BvMul v w = 4 * (v * v) + 1
binary_gates BvUdiv v w = 5 * (v * v) + 5 * v + 1
binary_gates BvUrem v w = 5 * (v * v) + 5 * v + 1
binary_gates BvSdiv v w = 5 * (v * v) + 20 * v + 8
binary_gates BvSrem v w = 5 * (v * v) + 20 * v + 7
binary_gates BvSmod v w = 5 * (v * v) + 25 * v + 11
binary_gates BvShl v w = v * v + 1
binary_gates BvLshr v w = v * v + 1
binary_gates BvAshr v w = v * v + 2 * v + 1
binary_gates BvUlt v w = 4 * v + 3
binary_gates BvUle v w = 4 * v + 1
binary_gates BvUgt v w = 4 * w + 3
binary_gates BvUge v w = 4 * w + 1
binary_gates BvSlt v w = 4 * v + 7
binary_gates BvSle v w = 4 * v + 5
binary_gates BvSgt v w = 4 * w + 7
binary_gates BvSge v w = 4 * w + 5

-- the operands have one width, where they have to
abbrev pub widths_fit : BvOp → ℕ → ℕ → Bool
widths_fit Concat v w = true
widths_fit _ v w = nat_eq v w
