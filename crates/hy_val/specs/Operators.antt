-- The sort and the value of an operator's result.
use Rattle.std.specs.Prelude.{ℕ, ◌+◌, ◌-◌, Bool, true, false, not, ◌&&◌, ◌||◌, nat_eq, nat_lt, nat_le, if◌then◌else◌, Option, Some, None}
use Rattle.hy_val.specs.Word.{Word}
use Rattle.hy_val.specs.Bits.{bvnot, bvneg, bvand, bvor, bvxor, bvadd, bvsub, bvmul, bvudiv, bvurem, bvsdiv, bvsrem, bvsmod, bvshl, bvlshr, bvashr, bvult, bvule, bvslt, bvsle, concat, extract, sign_extend}
use Rattle.hy_val.specs.declared.sort.Scalar.{Scalar}
use Rattle.hy_val.specs.declared.sort.ScalarKind.TheVariants.{Bool as BoolSort, Bv as BvSort}
use Rattle.hy_val.specs.declared.atom.Atom.{Atom}
use Rattle.hy_val.specs.declared.atom.AtomKind.TheVariants.{Bool as BoolAtom, Bv as BvAtom}
use Rattle.hy_val.specs.declared.operator.UnOp.{UnOp}
use Rattle.hy_val.specs.declared.operator.UnOp.TheVariants.{Not, Extract, BvNot, BvNeg, ZeroExtend, SignExtend}
use Rattle.hy_val.specs.declared.operator.BvOp.{BvOp}
use Rattle.hy_val.specs.declared.operator.BvOp.TheVariants.{And, Or, Implies, Iff, Eq, Ne, Concat, BvAnd, BvOr, BvXor, BvAdd, BvSub, BvMul, BvUdiv, BvUrem, BvSdiv, BvSrem, BvSmod, BvShl, BvLshr, BvAshr, BvUlt, BvUle, BvUgt, BvUge, BvSlt, BvSle, BvSgt, BvSge}

-- the sort of the bit vectors of w bits, where the test holds
abbrev pub bits_if : Bool → ℕ → Option Scalar
bits_if fits w = if fits then Some (BvSort w) else None

-- the sort of the result, where the operand has a sort that fits
abbrev pub sort_of_unary : UnOp → Scalar → Option Scalar
sort_of_unary Not BoolSort = Some BoolSort
sort_of_unary Not (BvSort w) = None
sort_of_unary (Extract hi lo) BoolSort = None
sort_of_unary (Extract hi lo) (BvSort w) = bits_if (nat_lt lo hi && nat_le hi w) (hi - lo)
sort_of_unary BvNot BoolSort = None
sort_of_unary BvNot (BvSort w) = Some (BvSort w)
sort_of_unary BvNeg BoolSort = None
sort_of_unary BvNeg (BvSort w) = Some (BvSort w)
sort_of_unary (ZeroExtend k) BoolSort = None
sort_of_unary (ZeroExtend k) (BvSort w) = bits_if (nat_le (w + k) 64) (w + k)
sort_of_unary (SignExtend k) BoolSort = None
sort_of_unary (SignExtend k) (BvSort w) = bits_if (nat_le (w + k) 64) (w + k)

-- the same for two bools
abbrev pub sort_of_bools : BvOp → Option Scalar
sort_of_bools And = Some BoolSort
sort_of_bools Or = Some BoolSort
sort_of_bools Implies = Some BoolSort
sort_of_bools Iff = Some BoolSort
sort_of_bools Eq = Some BoolSort
sort_of_bools Ne = Some BoolSort
sort_of_bools _ = None

-- two of one width, to that width
abbrev pub same_width : ℕ → ℕ → Option Scalar
same_width v w = bits_if (nat_eq v w) v

-- two of one width, to bool
abbrev pub compared : ℕ → ℕ → Option Scalar
compared v w = if nat_eq v w then Some BoolSort else None

-- the same for two bit vectors of v and w bits
abbrev pub sort_of_words : BvOp → ℕ → ℕ → Option Scalar
sort_of_words And v w = None
sort_of_words Or v w = None
sort_of_words Implies v w = None
sort_of_words Iff v w = None
sort_of_words Eq v w = compared v w
sort_of_words Ne v w = compared v w
sort_of_words Concat v w = bits_if (nat_le (v + w) 64) (v + w)
sort_of_words BvAnd v w = same_width v w
sort_of_words BvOr v w = same_width v w
sort_of_words BvXor v w = same_width v w
sort_of_words BvAdd v w = same_width v w
sort_of_words BvSub v w = same_width v w
sort_of_words BvMul v w = same_width v w
sort_of_words BvUdiv v w = same_width v w
sort_of_words BvUrem v w = same_width v w
sort_of_words BvSdiv v w = same_width v w
sort_of_words BvSrem v w = same_width v w
sort_of_words BvSmod v w = same_width v w
sort_of_words BvShl v w = same_width v w
sort_of_words BvLshr v w = same_width v w
sort_of_words BvAshr v w = same_width v w
sort_of_words BvUlt v w = compared v w
sort_of_words BvUle v w = compared v w
sort_of_words BvUgt v w = compared v w
sort_of_words BvUge v w = compared v w
sort_of_words BvSlt v w = compared v w
sort_of_words BvSle v w = compared v w
sort_of_words BvSgt v w = compared v w
sort_of_words BvSge v w = compared v w

-- the sort of the result, where the operands have sorts that fit
abbrev pub sort_of_binary : BvOp → Scalar → Scalar → Option Scalar
sort_of_binary op BoolSort BoolSort = sort_of_bools op
sort_of_binary op BoolSort (BvSort w) = None
sort_of_binary op (BvSort v) BoolSort = None
sort_of_binary op (BvSort v) (BvSort w) = sort_of_words op v w

-- the bit vector of this width and number
abbrev pub bits_atom : ℕ → ℕ → Atom
bits_atom w n = BvAtom (record { width = w; bits = n })

-- the value of an operator with one operand; where the operand doesn't fit it doesn't matter
abbrev pub apply1 : UnOp → Atom → Atom
apply1 Not (BoolAtom a) = BoolAtom (not a)
apply1 Not (BvAtom a) = BoolAtom false
apply1 (Extract hi lo) (BoolAtom a) = BoolAtom false
apply1 (Extract hi lo) (BvAtom a) = bits_atom (hi - lo) (extract hi lo a.bits)
apply1 BvNot (BoolAtom a) = BoolAtom false
apply1 BvNot (BvAtom a) = bits_atom a.width (bvnot a.width a.bits)
apply1 BvNeg (BoolAtom a) = BoolAtom false
apply1 BvNeg (BvAtom a) = bits_atom a.width (bvneg a.width a.bits)
apply1 (ZeroExtend k) (BoolAtom a) = BoolAtom false
apply1 (ZeroExtend k) (BvAtom a) = bits_atom (a.width + k) a.bits
apply1 (SignExtend k) (BoolAtom a) = BoolAtom false
apply1 (SignExtend k) (BvAtom a) = bits_atom (a.width + k) (sign_extend a.width k a.bits)

-- both are true, or both false
abbrev pub bools_agree : Bool → Bool → Bool
bools_agree true b = b
bools_agree false b = not b

-- the value of an operator on two bools
abbrev pub apply_to_bools : BvOp → Bool → Bool → Bool
apply_to_bools And a b = a && b
apply_to_bools Or a b = a || b
apply_to_bools Implies a b = not a || b
apply_to_bools Iff a b = bools_agree a b
apply_to_bools Eq a b = bools_agree a b
apply_to_bools Ne a b = not (bools_agree a b)
apply_to_bools _ a b = false

-- the value of an operator on two bit vectors
abbrev pub apply_to_words : BvOp → Word → Word → Atom
apply_to_words And a b = BoolAtom false
apply_to_words Or a b = BoolAtom false
apply_to_words Implies a b = BoolAtom false
apply_to_words Iff a b = BoolAtom false
apply_to_words Eq a b = BoolAtom (nat_eq a.bits b.bits)
apply_to_words Ne a b = BoolAtom (not (nat_eq a.bits b.bits))
apply_to_words Concat a b = bits_atom (a.width + b.width) (concat b.width a.bits b.bits)
apply_to_words BvAnd a b = bits_atom a.width (bvand a.width a.bits b.bits)
apply_to_words BvOr a b = bits_atom a.width (bvor a.width a.bits b.bits)
apply_to_words BvXor a b = bits_atom a.width (bvxor a.width a.bits b.bits)
apply_to_words BvAdd a b = bits_atom a.width (bvadd a.width a.bits b.bits)
apply_to_words BvSub a b = bits_atom a.width (bvsub a.width a.bits b.bits)
apply_to_words BvMul a b = bits_atom a.width (bvmul a.width a.bits b.bits)
apply_to_words BvUdiv a b = bits_atom a.width (bvudiv a.width a.bits b.bits)
apply_to_words BvUrem a b = bits_atom a.width (bvurem a.width a.bits b.bits)
apply_to_words BvSdiv a b = bits_atom a.width (bvsdiv a.width a.bits b.bits)
apply_to_words BvSrem a b = bits_atom a.width (bvsrem a.width a.bits b.bits)
apply_to_words BvSmod a b = bits_atom a.width (bvsmod a.width a.bits b.bits)
apply_to_words BvShl a b = bits_atom a.width (bvshl a.width a.bits b.bits)
apply_to_words BvLshr a b = bits_atom a.width (bvlshr a.width a.bits b.bits)
apply_to_words BvAshr a b = bits_atom a.width (bvashr a.width a.bits b.bits)
apply_to_words BvUlt a b = BoolAtom (bvult a.width a.bits b.bits)
apply_to_words BvUle a b = BoolAtom (bvule a.width a.bits b.bits)
apply_to_words BvUgt a b = BoolAtom (bvult a.width b.bits a.bits)
apply_to_words BvUge a b = BoolAtom (bvule a.width b.bits a.bits)
apply_to_words BvSlt a b = BoolAtom (bvslt a.width a.bits b.bits)
apply_to_words BvSle a b = BoolAtom (bvsle a.width a.bits b.bits)
apply_to_words BvSgt a b = BoolAtom (bvslt a.width b.bits a.bits)
apply_to_words BvSge a b = BoolAtom (bvsle a.width b.bits a.bits)

-- the value of an operator with two operands; where their sorts don't fit it doesn't matter
abbrev pub apply : BvOp → Atom → Atom → Atom
apply op (BoolAtom a) (BoolAtom b) = BoolAtom (apply_to_bools op a b)
apply op (BoolAtom a) (BvAtom b) = BoolAtom false
apply op (BvAtom a) (BoolAtom b) = BoolAtom false
apply op (BvAtom a) (BvAtom b) = apply_to_words op a b
