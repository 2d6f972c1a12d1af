-- What operators and nodes make has its sort: bits stay below 2 to their width.
use Rattle.std.proofs.Common.{◌≡◌, ℕ, zero, suc, ◌-◌, ◌+◌, ◌*◌, ◌/◌, ◌%◌, ◌^◌, ◌<◌, ◌≤◌, Bool, true, false, not, ◌&&◌, List, [], ◌∷◌, ◌++◌, map, arith, sym, refl, subst}
use Rattle.std.specs.Prelude.{Option, None, Some, nat_eq, nat_lt, nat_le, if◌then◌else◌, slice_get, IsTrue, IsSome}
use Rattle.std.specs.Option.{option_map}
use Rattle.std.proofs.Math.Nat.{div-le_self, mod-le}
use Rattle.std.proofs.lemmas.Nat.{pow_pos, mod_below, and_le_l, or_lt, xor_lt}
use Rattle.std.proofs.lemmas.Bool.Decides.{nat_tests}
use Rattle.hy_val.specs.Word.{Word}
use Rattle.hy_val.specs.Bits.{is_negative, signs_differ, absolute, negated_if, bvsmod_of, bvnot, bvneg, bvand, bvor, bvxor, bvadd, bvsub, bvmul, bvudiv, bvurem, bvsdiv, bvsrem, bvsmod, bvshl, bvlshr, bvashr, concat, extract, sign_extend}
use Rattle.hy_val.specs.Sorts.{scalar_of, is_scalar, same_scalar, has_scalar, rank, is_zero, zero_of_scalar}
use Rattle.hy_val.specs.Table.{Table}
use Rattle.hy_val.specs.Maps.{pair_fits, pairs_fit, ascends, is_map, entry, select, stored}
use Rattle.hy_val.specs.Operators.{bits_if, same_width, sort_of_unary, sort_of_words, sort_of_binary, bits_atom, apply1, apply_to_words, apply}
use Rattle.hy_val.specs.Values.{sort_of, has_sort, default, at, atom_of, is_on, select_value, store_value}
use Rattle.hy_val.specs.NodeSorts.{is_sort, select_sort, store_sort}
use Rattle.hy_val.specs.Exprs.{sort_of_node, node_by, variable, read, is_there, node_reads}
use Rattle.hy_val.proofs.Tables.{both, left, right, stored-is_map}
use Rattle.hy_val.proofs.Words.{joined_below, still_below, longer}
use Rattle.hy_val.proofs.ResultSorts.{kept, has_sort_is, has_scalar_is, kept_map, same_scalar_self}
use Rattle.hy_val.proofs.Evaluating.{all_kept, kept_at, unary_known, binary_known, select_known, store_known, written_known}
use Rattle.hy_val.specs.declared.sort.Scalar.{Scalar}
use Rattle.hy_val.specs.declared.sort.ScalarKind.TheVariants.{Bool as BoolSort, Bv as BvSort}
use Rattle.hy_val.specs.declared.sort.Sort.{Sort}
use Rattle.hy_val.specs.declared.sort.SortKind.TheVariants.{Scalar as ScalarSort}
use Rattle.hy_val.specs.declared.atom.Atom.{Atom}
use Rattle.hy_val.specs.declared.atom.AtomKind.TheVariants.{Bool as BoolAtom, Bv as BvAtom}
use Rattle.hy_val.specs.declared.operator.UnOp.{UnOp}
use Rattle.hy_val.specs.declared.operator.UnOp.TheVariants.{Not, Extract, BvNot, BvNeg, ZeroExtend, SignExtend}
use Rattle.hy_val.specs.declared.operator.BvOp.{BvOp}
use Rattle.hy_val.specs.declared.operator.BvOp.TheVariants.{And, Or, Implies, Iff, Eq, Ne, Concat, BvAnd, BvOr, BvXor, BvAdd, BvSub, BvMul, BvUdiv, BvUrem, BvSdiv, BvSrem, BvSmod, BvShl, BvLshr, BvAshr, BvUlt, BvUle, BvUgt, BvUge, BvSlt, BvSle, BvSgt, BvSge}
use Rattle.hy_val.specs.declared.value.Value.{Value}
use Rattle.hy_val.specs.declared.value.Value.TheVariants.{Atom as AtomValue, Map as MapValue}
use Rattle.hy_val.specs.declared.expr.Env.{Env}
use Rattle.hy_val.specs.declared.expr.ExprNode.{ExprNode}
use Rattle.hy_val.specs.declared.expr.ExprNode.TheVariants.{Lit, Var as Read, Unary, Binary, If, Select, Store}

-- ---- numbers below 2^w

chosen : (t : Bool) (n x y : ℕ) → x < n → y < n → (if t then x else y) < n
chosen true n x y h k = h
chosen false n x y h k = k

mod_pow : (n w : ℕ) → n % 2 ^ w < 2 ^ w
mod_pow n w = mod_below n (2 ^ w) (pow_pos w)

lower : (w a b : ℕ) → a ≤ b → b < 2 ^ w → a < 2 ^ w
lower w a b le less = omega (arith, le, less)

not_below : (w a : ℕ) → bvnot w a < 2 ^ w
not_below w a = omega (arith, pow_pos w)

neg_below : (w a : ℕ) → bvneg w a < 2 ^ w
neg_below w a = mod_pow (2 ^ w - a) w

udiv_below : (w a b : ℕ) → a < 2 ^ w → bvudiv w a b < 2 ^ w
udiv_below w a b less = chosen (nat_eq b 0) (2 ^ w) (2 ^ w - 1) (a / b) (omega (arith, pow_pos w)) (lower w (a / b) a (div-le_self a b) less)

urem_below : (w a b : ℕ) → a < 2 ^ w → bvurem w a b < 2 ^ w
urem_below w a b less = chosen (nat_eq b 0) (2 ^ w) a (a % b) less (lower w (a % b) a (mod-le a b) less)

absolute_below : (w a : ℕ) → a < 2 ^ w → absolute w a < 2 ^ w
absolute_below w a less = chosen (is_negative w a) (2 ^ w) (bvneg w a) a (neg_below w a) less

negated_below : (t : Bool) (w a : ℕ) → a < 2 ^ w → negated_if t w a < 2 ^ w
negated_below true w a less = neg_below w a
negated_below false w a less = less

sdiv_below : (w a b : ℕ) → a < 2 ^ w → bvsdiv w a b < 2 ^ w
sdiv_below w a b less =
    negated_below (signs_differ (is_negative w a) (is_negative w b)) w (bvudiv w (absolute w a) (absolute w b)) (udiv_below w (absolute w a) (absolute w b) (absolute_below w a less))

srem_below : (w a b : ℕ) → a < 2 ^ w → bvsrem w a b < 2 ^ w
srem_below w a b less =
    negated_below (is_negative w a) w (bvurem w (absolute w a) (absolute w b)) (urem_below w (absolute w a) (absolute w b) (absolute_below w a less))

smod_of_below : (s t : Bool) (w b u : ℕ) → u < 2 ^ w → bvsmod_of s t w b u < 2 ^ w
smod_of_below false false w b u less = less
smod_of_below true false w b u less = mod_pow (b + (2 ^ w - u)) w
smod_of_below false true w b u less = mod_pow (u + b) w
smod_of_below true true w b u less = neg_below w u

smod_below : (w a b : ℕ) → a < 2 ^ w → bvsmod w a b < 2 ^ w
smod_below w a b less =
    let u : ℕ = bvurem w (absolute w a) (absolute w b) in
    chosen (nat_eq u 0) (2 ^ w) 0 (bvsmod_of (is_negative w a) (is_negative w b) w b u) (pow_pos w)
    (smod_of_below (is_negative w a) (is_negative w b) w b u (urem_below w (absolute w a) (absolute w b) (absolute_below w a less)))

shl_below : (w a b : ℕ) → bvshl w a b < 2 ^ w
shl_below w a b = chosen (nat_lt b w) (2 ^ w) (a * 2 ^ b % 2 ^ w) 0 (mod_pow (a * 2 ^ b) w) (pow_pos w)

lshr_below : (w a b : ℕ) → a < 2 ^ w → bvlshr w a b < 2 ^ w
lshr_below w a b less = chosen (nat_lt b w) (2 ^ w) (a / 2 ^ b) 0 (lower w (a / 2 ^ b) a (div-le_self a (2 ^ b)) less) (pow_pos w)

ashr_below : (w a b : ℕ) → a < 2 ^ w → bvashr w a b < 2 ^ w
ashr_below w a b less = chosen (is_negative w a) (2 ^ w) (bvnot w (bvlshr w (bvnot w a) b)) (bvlshr w a b) (not_below w (bvlshr w (bvnot w a) b)) (lshr_below w a b less)

sign_extend_below : (w k a : ℕ) → a < 2 ^ w → sign_extend w k a < 2 ^ (w + k)
sign_extend_below w k a less =
    let more : 2 ^ w ≤ 2 ^ (w + k) = longer w k in
    chosen (is_negative w a) (2 ^ (w + k)) (a + (2 ^ (w + k) - 2 ^ w)) a (omega (arith, more, less)) (omega (arith, more, less))

-- ---- atoms of their sorts

-- a number of a width
pub record InWidth (w n : ℕ) : Type 0 where
  pub some : 0 < w
  pub most : w ≤ 64
  pub below : n < 2 ^ w

lt_is : (m n : ℕ) → m < n → nat_lt m n ≡ true
lt_is m n h = grind (arith, nat_tests, h)

is_lt : (m n : ℕ) → nat_lt m n ≡ true → m < n
is_lt m n h = grind (arith, nat_tests, h)

le_is : (m n : ℕ) → m ≤ n → nat_le m n ≡ true
le_is m n h = grind (arith, nat_tests, h)

is_le : (m n : ℕ) → nat_le m n ≡ true → m ≤ n
is_le m n h = grind (arith, nat_tests, h)

eq_self : (n : ℕ) → nat_eq n n ≡ true
eq_self n = grind (arith, nat_tests)

is_eq : (m n : ℕ) → nat_eq m n ≡ true → m ≡ n
is_eq m n h = grind (arith, nat_tests, h)

-- an atom of its own sort
abbrev pub own : Atom → Type 0
own a = IsTrue (has_scalar a (scalar_of a))

bits_own : (w n : ℕ) → InWidth w n → own (bits_atom w n)
bits_own w n h =
    both (nat_eq w w && is_scalar (BvSort w)) (nat_lt n (2 ^ w))
    (both (nat_eq w w) (is_scalar (BvSort w)) (eq_self w) (both (nat_lt 0 w) (nat_le w 64) (lt_is 0 w h.some) (le_is w 64 h.most))) (lt_is n (2 ^ w) h.below)

own_word : (v : Word) → own (BvAtom v) → InWidth v.width v.bits
own_word v h =
    let one = left (nat_eq v.width v.width && is_scalar (BvSort v.width)) (nat_lt v.bits (2 ^ v.width)) h in
    let two = right (nat_eq v.width v.width) (is_scalar (BvSort v.width)) one in
    record {
      some = is_lt 0 v.width (left (nat_lt 0 v.width) (nat_le v.width 64) two);
      most = is_le v.width 64 (right (nat_lt 0 v.width) (nat_le v.width 64) two);
      below = is_lt v.bits (2 ^ v.width) (right (nat_eq v.width v.width && is_scalar (BvSort v.width)) (nat_lt v.bits (2 ^ v.width)) h);
    }

same_own : (w m n : ℕ) → InWidth w m → n < 2 ^ w → own (bits_atom w n)
same_own w m n h less = bits_own w n (record { some = h.some; most = h.most; below = less })

fits_if : (t : Bool) (w : ℕ) → IsSome (bits_if t w) → t ≡ true
fits_if true w h = refl
fits_if false w h = cc

pub apply1_own : (op : UnOp) (a : Atom) → own a → IsSome (sort_of_unary op (scalar_of a)) → own (apply1 op a)
apply1_own Not (BoolAtom a) k h = refl
apply1_own Not (BvAtom a) k h = refl
apply1_own (Extract hi lo) (BoolAtom a) k h = refl
apply1_own (Extract hi lo) (BvAtom a) k h =
    let two = fits_if (nat_lt lo hi && nat_le hi a.width) (hi - lo) h in
    let less : lo < hi = is_lt lo hi (left (nat_lt lo hi) (nat_le hi a.width) two) in
    let within : hi ≤ a.width = is_le hi a.width (right (nat_lt lo hi) (nat_le hi a.width) two) in
    let of : InWidth a.width a.bits = own_word a k in
    bits_own (hi - lo) (extract hi lo a.bits)
    (record { some = omega (arith, less); most = omega (arith, within, of.most); below = mod_pow (a.bits / 2 ^ lo) (hi - lo) })
apply1_own BvNot (BoolAtom a) k h = refl
apply1_own BvNot (BvAtom a) k h = same_own a.width a.bits (bvnot a.width a.bits) (own_word a k) (not_below a.width a.bits)
apply1_own BvNeg (BoolAtom a) k h = refl
apply1_own BvNeg (BvAtom a) k h = same_own a.width a.bits (bvneg a.width a.bits) (own_word a k) (neg_below a.width a.bits)
apply1_own (ZeroExtend more) (BoolAtom a) k h = refl
apply1_own (ZeroExtend more) (BvAtom a) k h =
    let of : InWidth a.width a.bits = own_word a k in
    bits_own (a.width + more) a.bits
    (record {
      some = omega (arith, of.some);
      most = is_le (a.width + more) 64 (fits_if (nat_le (a.width + more) 64) (a.width + more) h);
      below = still_below a.width more a.bits of.below;
    })
apply1_own (SignExtend more) (BoolAtom a) k h = refl
apply1_own (SignExtend more) (BvAtom a) k h =
    let of : InWidth a.width a.bits = own_word a k in
    bits_own (a.width + more) (sign_extend a.width more a.bits)
    (record {
      some = omega (arith, of.some);
      most = is_le (a.width + more) 64 (fits_if (nat_le (a.width + more) 64) (a.width + more) h);
      below = sign_extend_below a.width more a.bits of.below;
    })

width_same : (v w : ℕ) → IsSome (same_width v w) → v ≡ w
width_same v w h = is_eq v w (fits_if (nat_eq v w) v h)

other_below : (a b : Word) → InWidth b.width b.bits → IsSome (same_width a.width b.width) → b.bits < 2 ^ a.width
other_below a b k h = subst (λ (w : ℕ). b.bits < 2 ^ w) (sym (width_same a.width b.width h)) k.below

concat_own : (a b : Word) → InWidth a.width a.bits → InWidth b.width b.bits → IsSome (bits_if (nat_le (a.width + b.width) 64) (a.width + b.width))
    → own (bits_atom (a.width + b.width) (concat b.width a.bits b.bits))
concat_own a b j k h =
    bits_own (a.width + b.width) (concat b.width a.bits b.bits)
    (record {
      some = omega (arith, j.some);
      most = is_le (a.width + b.width) 64 (fits_if (nat_le (a.width + b.width) 64) (a.width + b.width) h);
      below = joined_below a.width b.width a.bits b.bits (concat b.width a.bits b.bits) refl j.below k.below;
    })

words_own : (op : BvOp) (a b : Word) → InWidth a.width a.bits → InWidth b.width b.bits → IsSome (sort_of_words op a.width b.width) → own (apply_to_words op a b)
words_own And a b j k h = refl
words_own Or a b j k h = refl
words_own Implies a b j k h = refl
words_own Iff a b j k h = refl
words_own Eq a b j k h = refl
words_own Ne a b j k h = refl
words_own Concat a b j k h = concat_own a b j k h
words_own BvAnd a b j k h = same_own a.width a.bits (bvand a.width a.bits b.bits) j (lower a.width (bvand a.width a.bits b.bits) a.bits (and_le_l a.bits b.bits) j.below)
words_own BvOr a b j k h = same_own a.width a.bits (bvor a.width a.bits b.bits) j (or_lt a.width a.bits b.bits j.below (other_below a b k h))
words_own BvXor a b j k h = same_own a.width a.bits (bvxor a.width a.bits b.bits) j (xor_lt a.width a.bits b.bits j.below (other_below a b k h))
words_own BvAdd a b j k h = same_own a.width a.bits (bvadd a.width a.bits b.bits) j (mod_pow (a.bits + b.bits) a.width)
words_own BvSub a b j k h = same_own a.width a.bits (bvsub a.width a.bits b.bits) j (mod_pow (a.bits + (2 ^ a.width - b.bits)) a.width)
words_own BvMul a b j k h = same_own a.width a.bits (bvmul a.width a.bits b.bits) j (mod_pow (a.bits * b.bits) a.width)
words_own BvUdiv a b j k h = same_own a.width a.bits (bvudiv a.width a.bits b.bits) j (udiv_below a.width a.bits b.bits j.below)
words_own BvUrem a b j k h = same_own a.width a.bits (bvurem a.width a.bits b.bits) j (urem_below a.width a.bits b.bits j.below)
words_own BvSdiv a b j k h = same_own a.width a.bits (bvsdiv a.width a.bits b.bits) j (sdiv_below a.width a.bits b.bits j.below)
words_own BvSrem a b j k h = same_own a.width a.bits (bvsrem a.width a.bits b.bits) j (srem_below a.width a.bits b.bits j.below)
words_own BvSmod a b j k h = same_own a.width a.bits (bvsmod a.width a.bits b.bits) j (smod_below a.width a.bits b.bits j.below)
words_own BvShl a b j k h = same_own a.width a.bits (bvshl a.width a.bits b.bits) j (shl_below a.width a.bits b.bits)
words_own BvLshr a b j k h = same_own a.width a.bits (bvlshr a.width a.bits b.bits) j (lshr_below a.width a.bits b.bits j.below)
words_own BvAshr a b j k h = same_own a.width a.bits (bvashr a.width a.bits b.bits) j (ashr_below a.width a.bits b.bits j.below)
words_own BvUlt a b j k h = refl
words_own BvUle a b j k h = refl
words_own BvUgt a b j k h = refl
words_own BvUge a b j k h = refl
words_own BvSlt a b j k h = refl
words_own BvSle a b j k h = refl
words_own BvSgt a b j k h = refl
words_own BvSge a b j k h = refl

pub apply_own : (op : BvOp) (a b : Atom) → own a → own b → IsSome (sort_of_binary op (scalar_of a) (scalar_of b)) → own (apply op a b)
apply_own op (BoolAtom a) (BoolAtom b) j k h = refl
apply_own op (BoolAtom a) (BvAtom b) j k h = refl
apply_own op (BvAtom a) (BoolAtom b) j k h = refl
apply_own op (BvAtom a) (BvAtom b) j k h = words_own op a b (own_word a j) (own_word b k) h

-- ---- values of nodes

atom_own : (o : Option Value) → kept (default o) → own (atom_of (default o))
atom_own None k = refl
atom_own (Some (AtomValue a)) k = k
atom_own (Some (MapValue m)) k = refl

at_own : (vs : List Value) (n : ℕ) → all_kept vs → own (atom_of (at vs n))
at_own vs n k = atom_own (slice_get vs n) (kept_at vs n k)

lit_own : (t : Bool) (s : Sort) → IsSome (if t then Some s else None) → t ≡ true
lit_own true s h = refl
lit_own false s h = cc

-- an atom that has a sort has its own, and that is one
scalar_own : (a : Atom) (s : Scalar) → has_scalar a s ≡ true → own a
scalar_own a s h = subst (λ (t : Scalar). has_scalar a t ≡ true) (sym (has_scalar_is a s h)) h

own_scalar : (a : Atom) → own a → is_scalar (scalar_of a) ≡ true
own_scalar (BoolAtom b) h = refl
own_scalar (BvAtom v) h =
    right (nat_eq v.width v.width) (is_scalar (BvSort v.width)) (left (nat_eq v.width v.width && is_scalar (BvSort v.width)) (nat_lt v.bits (2 ^ v.width)) h)

pub zero_own : (s : Scalar) → is_scalar s ≡ true → own (zero_of_scalar s)
zero_own BoolSort h = refl
zero_own (BvSort w) h =
    bits_own w 0
    (record { some = is_lt 0 w (left (nat_lt 0 w) (nat_le w 64) h); most = is_le w 64 (right (nat_lt 0 w) (nat_le w 64) h); below = pow_pos w })

-- a value of its sort, whose widths are 1 to 64
pub record Good (v : Value) : Type 0 where
  pub own : kept v
  pub sort : IsTrue (is_sort (sort_of v))

abbrev pub all_good : List Value → Type 0
all_good [] = Unit {0}
all_good (v ∷ vs) = Good v × all_good vs

pub good_kept : (vs : List Value) → all_good vs → all_kept vs
good_kept [] h = tt
good_kept (v ∷ vs) h = (h.0.own, good_kept vs h.1)

pub good_push : (vs : List Value) (v : Value) → all_good vs → Good v → all_good (vs ++ v ∷ [])
good_push [] v h k = (k, tt)
good_push (w ∷ vs) v h k = (h.0, good_push vs v h.1 k)

pub good_at : (vs : List Value) (n : ℕ) → all_good vs → Good (default (slice_get vs n))
good_at [] n h = record { own = refl; sort = refl }
good_at (v ∷ vs) zero h = h.0
good_at (v ∷ vs) (suc n) h = good_at vs n h.1

atom_good : (a : Atom) → own a → Good (AtomValue a)
atom_good a h = record { own = h; sort = own_scalar a h }

picked_good : (t : Bool) (v w : Value) → Good v → Good w → Good (if t then v else w)
picked_good true v w h k = h
picked_good false v w h k = k

map_good : (m : Table) → IsTrue (is_map m) → IsTrue (is_scalar m.index && is_scalar m.elem) → Good (MapValue m)
map_good m h s =
    record {
      own =
          both (same_scalar m.index m.index && same_scalar m.elem m.elem) (is_map m)
          (both (same_scalar m.index m.index) (same_scalar m.elem m.elem) (same_scalar_self m.index) (same_scalar_self m.elem)) h;
      sort = s;
    }

read_good : (o : Option Value) (sort : Sort) → IsTrue (is_there o sort) → is_sort sort ≡ true → Good (default o)
read_good None sort h s = absurd (let no : false ≡ true → ⊥ = λ x. cc in no h)
read_good (Some v) sort h s =
    let of : sort_of v ≡ sort = has_sort_is v sort h in
    record {
      own = subst (λ (t : Sort). IsTrue (has_sort v t)) (sym of) h;
      sort = subst (λ (t : Sort). IsTrue (is_sort t)) (sym of) s;
    }

entry_own_by : (t : Bool) (v rest : Atom) → own v → own rest → own (if t then v else rest)
entry_own_by true v rest h k = h
entry_own_by false v rest h k = k

pub entry_own : (index elem : Scalar) (ps : List (Atom × Atom)) (i : Atom) → is_scalar elem ≡ true → pairs_fit index elem ps ≡ true → own (entry (zero_of_scalar elem) ps i)
entry_own index elem [] i s f = zero_own elem s
entry_own index elem (p ∷ ps) i s f =
    let first : pair_fits index elem p ≡ true = left (pair_fits index elem p) (pairs_fit index elem ps) f in
    let two : IsTrue (has_scalar p.0 index && has_scalar p.1 elem) = left (has_scalar p.0 index && has_scalar p.1 elem) (not (is_zero p.1)) first in
    entry_own_by (nat_eq (rank p.0) (rank i)) p.1 (entry (zero_of_scalar elem) ps i)
    (scalar_own p.1 elem (right (has_scalar p.0 index) (has_scalar p.1 elem) two))
    (entry_own index elem ps i s (right (pair_fits index elem p) (pairs_fit index elem ps) f))

select_good : (o : Option Value) (i : Option Scalar) (j : Value) → Good (default o) → IsSome (select_sort (option_map sort_of o) i) → Good (select_value (default o) j)
select_good None i j g h = absurd (let no : false ≡ true → ⊥ = λ x. cc in no h)
select_good (Some (AtomValue a)) i j g h = absurd (let no : false ≡ true → ⊥ = λ x. cc in no h)
select_good (Some (MapValue m)) i j g h =
    atom_good (select m (atom_of j))
    (entry_own m.index m.elem m.pairs (atom_of j) (right (is_scalar m.index) (is_scalar m.elem) g.sort)
    (left (pairs_fit m.index m.elem m.pairs) (ascends m.pairs) (kept_map m g.own)))

store_good : (o : Option Value) (i v : Value) → Good (default o) → own (atom_of i) → own (atom_of v)
    → IsSome (store_sort (option_map sort_of o) (Some (scalar_of (atom_of i))) (Some (scalar_of (atom_of v)))) → Good (store_value (default o) i v)
store_good None i v g hi hv h = absurd (let no : false ≡ true → ⊥ = λ x. cc in no h)
store_good (Some (AtomValue a)) i v g hi hv h = absurd (let no : false ≡ true → ⊥ = λ x. cc in no h)
store_good (Some (MapValue m)) i v g hi hv h =
    let fit : IsTrue (has_scalar (atom_of i) m.index) × IsTrue (has_scalar (atom_of v) m.elem) = written_known m (atom_of i) (atom_of v) hi hv h in
    map_good (stored m (atom_of i) (atom_of v)) (stored-is_map m (atom_of i) (atom_of v) (kept_map m g.own) fit.0 fit.1) g.sort

pub node_good : (env : Env) (known : List Value) (node : ExprNode) → all_good known → IsTrue (node_reads env node) → IsSome (sort_of_node (map sort_of known) node)
    → Good (node_by (read env) known node)
node_good env known (Lit a) k r h = atom_good a (lit_own (has_scalar a (scalar_of a)) (ScalarSort (scalar_of a)) h)
node_good env known (Read x sort) k r h = read_good (variable env x) sort r (lit_own (is_sort sort) sort h)
node_good env known (Unary op c) k r h =
    atom_good (apply1 op (atom_of (at known c))) (apply1_own op (atom_of (at known c)) (at_own known c (good_kept known k)) (unary_known op known c (atom_of (at known c)) refl h))
node_good env known (Binary op l m) k r h =
    atom_good (apply op (atom_of (at known l)) (atom_of (at known m)))
    (apply_own op (atom_of (at known l)) (atom_of (at known m)) (at_own known l (good_kept known k)) (at_own known m (good_kept known k))
    (binary_known op known l m (atom_of (at known l)) (atom_of (at known m)) refl refl h))
node_good env known (If c y n) k r h = picked_good (is_on (at known c)) (at known y) (at known n) (good_at known y k) (good_at known n k)
node_good env known (Select m i) k r h =
    select_good (slice_get known m) (Some (scalar_of (atom_of (at known i)))) (at known i) (good_at known m k)
    (select_known known m i (atom_of (at known i)) refl h)
node_good env known (Store m i v) k r h =
    store_good (slice_get known m) (at known i) (at known v) (good_at known m k) (at_own known i (good_kept known k)) (at_own known v (good_kept known k))
    (store_known known m i v (atom_of (at known i)) (atom_of (at known v)) refl refl h)
