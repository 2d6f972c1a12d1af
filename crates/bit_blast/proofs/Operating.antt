-- The circuits of operators do what the operators do.
use Rattle.std.proofs.Common.{◌≡◌, ℕ, ◌+◌, ◌-◌, ◌*◌, ◌<◌, ◌≤◌, Bool, true, false, not, ◌&&◌, List, refl, ap, ◌∙◌, arith}
use Rattle.std.specs.Prelude.{None, Some, nat_eq, nat_lt, nat_le, IsTrue, if◌then◌else◌, replicate}
use Rattle.std.proofs.Math.Nat.{mul-le-mul_left}
use Rattle.std.proofs.lemmas.Bool.Decides.{nat_tests}
use Rattle.hy_val.specs.Word.{Word}
use Rattle.hy_val.specs.Bits.{bvslt, bvsle}
use Rattle.hy_val.specs.Sorts.{scalar_of, rank}
use Rattle.hy_val.specs.Operators.{bits_if, sort_of_unary, sort_of_bools, same_width, compared, sort_of_words, sort_of_binary, apply1, apply}
use Rattle.hy_val.specs.declared.sort.Scalar.{Scalar}
use Rattle.hy_val.specs.declared.sort.ScalarKind.TheVariants.{Bool as BoolSort, Bv as BvSort}
use Rattle.hy_val.specs.declared.atom.Atom.{Atom}
use Rattle.hy_val.specs.declared.atom.AtomKind.TheVariants.{Bool as BoolAtom, Bv as BvAtom}
use Rattle.hy_val.specs.declared.operator.UnOp.{UnOp}
use Rattle.hy_val.specs.declared.operator.UnOp.TheVariants.{Not, Extract, BvNot, BvNeg, ZeroExtend, SignExtend}
use Rattle.hy_val.specs.declared.operator.BvOp.{BvOp}
use Rattle.hy_val.specs.declared.operator.BvOp.TheVariants.{And, Or, Implies, Iff, Eq, Ne, Concat, BvAnd, BvOr, BvXor, BvAdd, BvSub, BvMul, BvUdiv, BvUrem, BvSdiv, BvSrem, BvSmod, BvShl, BvLshr, BvAshr, BvUlt, BvUle, BvUgt, BvUge, BvSlt, BvSle, BvSgt, BvSge}
use Rattle.gate_net.specs.declared.net.Net.{Net}
use Rattle.bit_blast.specs.Words.{bit, carried, word}
use Rattle.bit_blast.specs.Blasted.{scalar_width}
use Rattle.bit_blast.specs.Operations.{is_within, unary_width, unary_number, unary_gates, widths_fit, binary_width, binary_number, binary_gates}
use Rattle.bit_blast.proofs.LowBits.{and_left, and_right, and_both}

pub word-single : (ins : List Bool) (net : Net) (k : ℕ) → word ins net (replicate 1 k) ≡ bit (carried ins net k)
word-single ins net k = omega arith

no_sort : (P : Type 0) (t : Scalar) → None ≡ Some t → P
no_sort P t h = absurd (let no : None ≡ Some t → ⊥ = λ y. cc in no h)

-- ---- one operand

abbrev UnaryFits : UnOp → Scalar → Scalar → Type 0
UnaryFits op s t = IsTrue (is_within op (scalar_width s)) × (unary_width op (scalar_width s) ≡ scalar_width t)

bits_if_is : (b : Bool) (w : ℕ) (t : Scalar) → bits_if b w ≡ Some t → (b ≡ true) × (w ≡ scalar_width t)
bits_if_is true w t h = let same : BvSort w ≡ t = cc in (refl, ap scalar_width same)
bits_if_is false w t h = no_sort ((false ≡ true) × (w ≡ scalar_width t)) t h

within_is : (hi lo w : ℕ) → (nat_lt lo hi && nat_le hi w) ≡ true → IsTrue (nat_le lo hi && nat_le hi w)
within_is hi lo w h =
    let less : nat_lt lo hi ≡ true = and_left (nat_lt lo hi) (nat_le hi w) h in
    let most : nat_le lo hi ≡ true = grind (arith, nat_tests, less) in
    and_both (nat_le lo hi) (nat_le hi w) most (and_right (nat_lt lo hi) (nat_le hi w) h)

same_sort_width : (s t : Scalar) → Some s ≡ Some t → scalar_width s ≡ scalar_width t
same_sort_width s t h = let same : s ≡ t = cc in ap scalar_width same

pub unary_fits : (op : UnOp) (s t : Scalar) → sort_of_unary op s ≡ Some t → UnaryFits op s t
unary_fits Not BoolSort t h = (refl, same_sort_width BoolSort t h)
unary_fits Not (BvSort w) t h = no_sort (UnaryFits Not (BvSort w) t) t h
unary_fits (Extract hi lo) BoolSort t h = no_sort (UnaryFits (Extract hi lo) BoolSort t) t h
unary_fits (Extract hi lo) (BvSort w) t h =
    let two = bits_if_is (nat_lt lo hi && nat_le hi w) (hi - lo) t h in (within_is hi lo w two.0, two.1)
unary_fits BvNot BoolSort t h = no_sort (UnaryFits BvNot BoolSort t) t h
unary_fits BvNot (BvSort w) t h = (refl, same_sort_width (BvSort w) t h)
unary_fits BvNeg BoolSort t h = no_sort (UnaryFits BvNeg BoolSort t) t h
unary_fits BvNeg (BvSort w) t h = (refl, same_sort_width (BvSort w) t h)
unary_fits (ZeroExtend k) BoolSort t h = no_sort (UnaryFits (ZeroExtend k) BoolSort t) t h
unary_fits (ZeroExtend k) (BvSort w) t h = (refl, (bits_if_is (nat_le (w + k) 64) (w + k) t h).1)
unary_fits (SignExtend k) BoolSort t h = no_sort (UnaryFits (SignExtend k) BoolSort t) t h
unary_fits (SignExtend k) (BvSort w) t h = (refl, (bits_if_is (nat_le (w + k) 64) (w + k) t h).1)

abbrev UnaryRight : UnOp → Atom → Type 0
UnaryRight op x = rank (apply1 op x) ≡ unary_number op (scalar_width (scalar_of x)) (rank x)

pub unary_right : (op : UnOp) (x : Atom) (t : Scalar) → sort_of_unary op (scalar_of x) ≡ Some t → UnaryRight op x
unary_right Not (BoolAtom true) t h = refl
unary_right Not (BoolAtom false) t h = refl
unary_right Not (BvAtom v) t h = no_sort (UnaryRight Not (BvAtom v)) t h
unary_right (Extract hi lo) (BoolAtom b) t h = no_sort (UnaryRight (Extract hi lo) (BoolAtom b)) t h
unary_right (Extract hi lo) (BvAtom v) t h = refl
unary_right BvNot (BoolAtom b) t h = no_sort (UnaryRight BvNot (BoolAtom b)) t h
unary_right BvNot (BvAtom v) t h = refl
unary_right BvNeg (BoolAtom b) t h = no_sort (UnaryRight BvNeg (BoolAtom b)) t h
unary_right BvNeg (BvAtom v) t h = refl
unary_right (ZeroExtend k) (BoolAtom b) t h = no_sort (UnaryRight (ZeroExtend k) (BoolAtom b)) t h
unary_right (ZeroExtend k) (BvAtom v) t h = refl
unary_right (SignExtend k) (BoolAtom b) t h = no_sort (UnaryRight (SignExtend k) (BoolAtom b)) t h
unary_right (SignExtend k) (BvAtom v) t h = refl

-- ---- two operands

abbrev BinaryFits : BvOp → ℕ → ℕ → Scalar → Type 0
BinaryFits op v w t = IsTrue (widths_fit op v w) × (binary_width op v w ≡ scalar_width t)

abbrev Same : ℕ → ℕ → ℕ → Scalar → Type 0
Same v w n t = IsTrue (nat_eq v w) × (n ≡ scalar_width t)

same_is : (v w : ℕ) (t : Scalar) → same_width v w ≡ Some t → Same v w v t
same_is v w t h = bits_if_is (nat_eq v w) v t h

compared_by : (b : Bool) (t : Scalar) → (if b then Some BoolSort else None) ≡ Some t → (b ≡ true) × (1 ≡ scalar_width t)
compared_by true t h = (refl, same_sort_width BoolSort t h)
compared_by false t h = no_sort ((false ≡ true) × (1 ≡ scalar_width t)) t h

compared_is : (v w : ℕ) (t : Scalar) → compared v w ≡ Some t → Same v w 1 t
compared_is v w t h = compared_by (nat_eq v w) t h

bools_fit : (op : BvOp) (t : Scalar) → sort_of_bools op ≡ Some t → BinaryFits op 1 1 t
bools_fit And t h = (refl, same_sort_width BoolSort t h)
bools_fit Or t h = (refl, same_sort_width BoolSort t h)
bools_fit Implies t h = (refl, same_sort_width BoolSort t h)
bools_fit Iff t h = (refl, same_sort_width BoolSort t h)
bools_fit Eq t h = (refl, same_sort_width BoolSort t h)
bools_fit Ne t h = (refl, same_sort_width BoolSort t h)
bools_fit op t h = no_sort (BinaryFits op 1 1 t) t h

words_fit : (op : BvOp) (v w : ℕ) (t : Scalar) → sort_of_words op v w ≡ Some t → BinaryFits op v w t
words_fit And v w t h = no_sort (BinaryFits And v w t) t h
words_fit Or v w t h = no_sort (BinaryFits Or v w t) t h
words_fit Implies v w t h = no_sort (BinaryFits Implies v w t) t h
words_fit Iff v w t h = no_sort (BinaryFits Iff v w t) t h
words_fit Eq v w t h = compared_is v w t h
words_fit Ne v w t h = compared_is v w t h
words_fit Concat v w t h = (refl, (bits_if_is (nat_le (v + w) 64) (v + w) t h).1)
words_fit BvAnd v w t h = same_is v w t h
words_fit BvOr v w t h = same_is v w t h
words_fit BvXor v w t h = same_is v w t h
words_fit BvAdd v w t h = same_is v w t h
words_fit BvSub v w t h = same_is v w t h
words_fit BvMul v w t h = same_is v w t h
words_fit BvUdiv v w t h = same_is v w t h
words_fit BvUrem v w t h = same_is v w t h
words_fit BvSdiv v w t h = same_is v w t h
words_fit BvSrem v w t h = same_is v w t h
words_fit BvSmod v w t h = same_is v w t h
words_fit BvShl v w t h = same_is v w t h
words_fit BvLshr v w t h = same_is v w t h
words_fit BvAshr v w t h = same_is v w t h
words_fit BvUlt v w t h = compared_is v w t h
words_fit BvUle v w t h = compared_is v w t h
words_fit BvUgt v w t h = compared_is v w t h
words_fit BvUge v w t h = compared_is v w t h
words_fit BvSlt v w t h = compared_is v w t h
words_fit BvSle v w t h = compared_is v w t h
words_fit BvSgt v w t h = compared_is v w t h
words_fit BvSge v w t h = compared_is v w t h

pub binary_fits : (op : BvOp) (r s t : Scalar) → sort_of_binary op r s ≡ Some t → BinaryFits op (scalar_width r) (scalar_width s) t
binary_fits op BoolSort BoolSort t h = bools_fit op t h
binary_fits op BoolSort (BvSort w) t h = no_sort (BinaryFits op 1 w t) t h
binary_fits op (BvSort v) BoolSort t h = no_sort (BinaryFits op v 1 t) t h
binary_fits op (BvSort v) (BvSort w) t h = words_fit op v w t h

abbrev BinaryRight : BvOp → Atom → Atom → Type 0
BinaryRight op x y = rank (apply op x y) ≡ binary_number op (scalar_width (scalar_of x)) (scalar_width (scalar_of y)) (rank x) (rank y)

bools_right : (op : BvOp) (a b : Bool) (t : Scalar) → sort_of_bools op ≡ Some t → BinaryRight op (BoolAtom a) (BoolAtom b)
bools_right And true true t h = refl
bools_right And true false t h = refl
bools_right And false true t h = refl
bools_right And false false t h = refl
bools_right Or true true t h = refl
bools_right Or true false t h = refl
bools_right Or false true t h = refl
bools_right Or false false t h = refl
bools_right Implies true true t h = refl
bools_right Implies true false t h = refl
bools_right Implies false true t h = refl
bools_right Implies false false t h = refl
bools_right Iff true true t h = refl
bools_right Iff true false t h = refl
bools_right Iff false true t h = refl
bools_right Iff false false t h = refl
bools_right Eq true true t h = refl
bools_right Eq true false t h = refl
bools_right Eq false true t h = refl
bools_right Eq false false t h = refl
bools_right Ne true true t h = refl
bools_right Ne true false t h = refl
bools_right Ne false true t h = refl
bools_right Ne false false t h = refl
bools_right op a b t h = no_sort (BinaryRight op (BoolAtom a) (BoolAtom b)) t h

rank_bool : (b : Bool) → rank (BoolAtom b) ≡ bit b
rank_bool true = refl
rank_bool false = refl

-- the same test at the other operand's width
turned_order : (f : ℕ → ℕ → ℕ → Bool) (p q : Word) (t : Scalar) → compared p.width q.width ≡ Some t → rank (BoolAtom (f p.width q.bits p.bits)) ≡ bit (f q.width q.bits p.bits)
turned_order f p q t h =
    let test : nat_eq p.width q.width ≡ true = (compared_is p.width q.width t h).0 in
    let same : p.width ≡ q.width = grind (arith, nat_tests, test) in
    rank_bool (f p.width q.bits p.bits) ∙ ap (λ (n : ℕ). bit (f n q.bits p.bits)) same

words_right : (op : BvOp) (p q : Word) (t : Scalar) → sort_of_words op p.width q.width ≡ Some t → BinaryRight op (BvAtom p) (BvAtom q)
words_right And p q t h = no_sort (BinaryRight And (BvAtom p) (BvAtom q)) t h
words_right Or p q t h = no_sort (BinaryRight Or (BvAtom p) (BvAtom q)) t h
words_right Implies p q t h = no_sort (BinaryRight Implies (BvAtom p) (BvAtom q)) t h
words_right Iff p q t h = no_sort (BinaryRight Iff (BvAtom p) (BvAtom q)) t h
words_right Eq p q t h = rank_bool (nat_eq p.bits q.bits)
words_right Ne p q t h = rank_bool (not (nat_eq p.bits q.bits))
words_right Concat p q t h = refl
words_right BvAnd p q t h = refl
words_right BvOr p q t h = refl
words_right BvXor p q t h = refl
words_right BvAdd p q t h = refl
words_right BvSub p q t h = refl
words_right BvMul p q t h = refl
words_right BvUdiv p q t h = refl
words_right BvUrem p q t h = refl
words_right BvSdiv p q t h = refl
words_right BvSrem p q t h = refl
words_right BvSmod p q t h = refl
words_right BvShl p q t h = refl
words_right BvLshr p q t h = refl
words_right BvAshr p q t h = refl
words_right BvUlt p q t h = rank_bool (nat_lt p.bits q.bits)
words_right BvUle p q t h = rank_bool (nat_le p.bits q.bits)
words_right BvUgt p q t h = rank_bool (nat_lt q.bits p.bits)
words_right BvUge p q t h = rank_bool (nat_le q.bits p.bits)
words_right BvSlt p q t h = rank_bool (bvslt p.width p.bits q.bits)
words_right BvSle p q t h = rank_bool (bvsle p.width p.bits q.bits)
words_right BvSgt p q t h = turned_order bvslt p q t h
words_right BvSge p q t h = turned_order bvsle p q t h

pub binary_right : (op : BvOp) (x y : Atom) (t : Scalar) → sort_of_binary op (scalar_of x) (scalar_of y) ≡ Some t → BinaryRight op x y
binary_right op (BoolAtom a) (BoolAtom b) t h = bools_right op a b t h
binary_right op (BoolAtom a) (BvAtom q) t h = no_sort (BinaryRight op (BoolAtom a) (BvAtom q)) t h
binary_right op (BvAtom p) (BoolAtom b) t h = no_sort (BinaryRight op (BvAtom p) (BoolAtom b)) t h
binary_right op (BvAtom p) (BvAtom q) t h = words_right op p q t h

-- two words that aren't concatenated have one width
pub same_unless : (op : BvOp) (v w : ℕ) → (op ≡ Concat → ⊥) → IsTrue (widths_fit op v w) → w ≡ v
same_unless Concat v w other h = absurd (other refl)
same_unless op v w other h = let test : nat_eq v w ≡ true = h in grind (arith, nat_tests, test)

-- ---- how many gates

least_square : (w : ℕ) → 0 < w → w ≤ w * w
least_square w h = omega (arith, mul-le-mul_left w h)

pub unary_few : (op : UnOp) (w : ℕ) → 0 < w → unary_gates op w ≤ 64 * (w * w)
unary_few Not w h = omega (arith, least_square w h)
unary_few (Extract hi lo) w h = omega arith
unary_few BvNot w h = omega (arith, least_square w h)
unary_few BvNeg w h = omega (arith, least_square w h)
unary_few (ZeroExtend k) w h = omega (arith, least_square w h)
unary_few (SignExtend k) w h = omega arith

pub binary_few : (op : BvOp) (v w : ℕ) → 0 < v → IsTrue (widths_fit op v w) → binary_gates op v w ≤ 64 * (v * v)
binary_few Concat v w h k = omega arith
binary_few And v w h k = omega (arith, least_square v h)
binary_few Or v w h k = omega (arith, least_square v h)
binary_few Implies v w h k = omega (arith, least_square v h)
binary_few Iff v w h k = omega (arith, least_square v h)
binary_few Eq v w h k = omega (arith, least_square v h)
binary_few Ne v w h k = omega (arith, least_square v h)
binary_few BvAnd v w h k = omega (arith, least_square v h)
binary_few BvOr v w h k = omega (arith, least_square v h)
binary_few BvXor v w h k = omega (arith, least_square v h)
binary_few BvAdd v w h k = omega (arith, least_square v h)
binary_few BvSub v w h k = omega (arith, least_square v h)
binary_few BvMul v w h k = omega (arith, least_square v h)
binary_few BvUdiv v w h k = omega (arith, least_square v h)
binary_few BvUrem v w h k = omega (arith, least_square v h)
binary_few BvSdiv v w h k = omega (arith, least_square v h)
binary_few BvSrem v w h k = omega (arith, least_square v h)
binary_few BvSmod v w h k = omega (arith, least_square v h)
binary_few BvShl v w h k = omega (arith, least_square v h)
binary_few BvLshr v w h k = omega (arith, least_square v h)
binary_few BvAshr v w h k = omega (arith, least_square v h)
binary_few BvUlt v w h k = omega (arith, least_square v h)
binary_few BvUle v w h k = omega (arith, least_square v h)
binary_few BvUgt v w h k = let same : nat_eq v w ≡ true = k in let e : v ≡ w = grind (arith, nat_tests, same) in omega (arith, e, least_square v h)
binary_few BvUge v w h k = let same : nat_eq v w ≡ true = k in let e : v ≡ w = grind (arith, nat_tests, same) in omega (arith, e, least_square v h)
binary_few BvSlt v w h k = omega (arith, least_square v h)
binary_few BvSle v w h k = omega (arith, least_square v h)
binary_few BvSgt v w h k = let same : nat_eq v w ≡ true = k in let e : v ≡ w = grind (arith, nat_tests, same) in omega (arith, e, least_square v h)
binary_few BvSge v w h k = let same : nat_eq v w ≡ true = k in let e : v ≡ w = grind (arith, nat_tests, same) in omega (arith, e, least_square v h)
