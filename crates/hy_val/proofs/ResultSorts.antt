-- The sorts of results.
use Rattle.std.proofs.Common.{◌≡◌, ℕ, ◌-◌, ◌+◌, ◌^◌, Bool, true, false, not, ◌&&◌, List, [], ◌∷◌, arith, sym, ◌∙◌, ap, refl}
use Rattle.std.specs.Prelude.{Option, None, Some, nat_eq, nat_lt, nat_le, if◌then◌else◌, IsTrue}
use Rattle.std.specs.Option.{option_map}
use Rattle.std.proofs.lemmas.Bool.Decides.{nat_tests}
use Rattle.hy_val.specs.Word.{Word}
use Rattle.hy_val.specs.Sorts.{scalar_of, is_scalar, same_scalar, has_scalar, zero_of_scalar, rank, is_zero}
use Rattle.hy_val.specs.Table.{Table}
use Rattle.hy_val.specs.Maps.{pair_fits, pairs_fit, ascends, is_map, entry}
use Rattle.hy_val.specs.Operators.{bits_if, sort_of_unary, sort_of_bools, sort_of_words, sort_of_binary, apply1, apply_to_words, apply}
use Rattle.hy_val.specs.Values.{sort_of, has_sort, default, atom_of, is_on, unary_value, binary_value, pick, select_value, store_value}
use Rattle.hy_val.specs.NodeSorts.{same_sort, as_sort, as_scalar, unary_sort, binary_sort, branch_sort, if_sort, entry_sort, select_sort, written_sort, store_sort}
use Rattle.hy_val.proofs.Tables.{left, right}
use Rattle.hy_val.specs.declared.sort.Scalar.{Scalar}
use Rattle.hy_val.specs.declared.sort.ScalarKind.TheVariants.{Bool as BoolSort, Bv as BvSort}
use Rattle.hy_val.specs.declared.sort.Sort.{Sort}
use Rattle.hy_val.specs.declared.sort.SortKind.TheVariants.{Scalar as ScalarSort, Map as MapSort}
use Rattle.hy_val.specs.declared.atom.Atom.{Atom}
use Rattle.hy_val.specs.declared.atom.AtomKind.TheVariants.{Bool as BoolAtom, Bv as BvAtom}
use Rattle.hy_val.specs.declared.operator.UnOp.{UnOp}
use Rattle.hy_val.specs.declared.operator.UnOp.TheVariants.{Not, Extract, BvNot, BvNeg, ZeroExtend, SignExtend}
use Rattle.hy_val.specs.declared.operator.BvOp.{BvOp}
use Rattle.hy_val.specs.declared.operator.BvOp.TheVariants.{And, Or, Implies, Iff, Eq, Ne, Concat, BvAnd, BvOr, BvXor, BvAdd, BvSub, BvMul, BvUdiv, BvUrem, BvSdiv, BvSrem, BvSmod, BvShl, BvLshr, BvAshr, BvUlt, BvUle, BvUgt, BvUge, BvSlt, BvSle, BvSgt, BvSge}
use Rattle.hy_val.specs.declared.value.Value.{Value}
use Rattle.hy_val.specs.declared.value.Value.TheVariants.{Atom as AtomValue, Map as MapValue}

-- ---- operators

bits_if_is : (fits : Bool) (w : ℕ) (t : Scalar) → bits_if fits w ≡ Some t → BvSort w ≡ t
bits_if_is true w t h = cc
bits_if_is false w t h = cc

compared_by : (same : Bool) (t : Scalar) → (if same then Some BoolSort else None) ≡ Some t → BoolSort ≡ t
compared_by true t h = cc
compared_by false t h = cc

pub unary_sorted : (op : UnOp) (a : Atom) (t : Scalar) → sort_of_unary op (scalar_of a) ≡ Some t → scalar_of (apply1 op a) ≡ t
unary_sorted Not (BoolAtom a) t h = cc
unary_sorted Not (BvAtom a) t h = cc
unary_sorted (Extract hi lo) (BoolAtom a) t h = cc
unary_sorted (Extract hi lo) (BvAtom a) t h = bits_if_is (nat_lt lo hi && nat_le hi a.width) (hi - lo) t h
unary_sorted BvNot (BoolAtom a) t h = cc
unary_sorted BvNot (BvAtom a) t h = cc
unary_sorted BvNeg (BoolAtom a) t h = cc
unary_sorted BvNeg (BvAtom a) t h = cc
unary_sorted (ZeroExtend k) (BoolAtom a) t h = cc
unary_sorted (ZeroExtend k) (BvAtom a) t h = bits_if_is (nat_le (a.width + k) 64) (a.width + k) t h
unary_sorted (SignExtend k) (BoolAtom a) t h = cc
unary_sorted (SignExtend k) (BvAtom a) t h = bits_if_is (nat_le (a.width + k) 64) (a.width + k) t h

bools_sorted : (op : BvOp) (t : Scalar) → sort_of_bools op ≡ Some t → BoolSort ≡ t
bools_sorted And t h = cc
bools_sorted Or t h = cc
bools_sorted Implies t h = cc
bools_sorted Iff t h = cc
bools_sorted Eq t h = cc
bools_sorted Ne t h = cc
bools_sorted _ t h = cc

words_sorted : (op : BvOp) (a b : Word) (t : Scalar) → sort_of_words op a.width b.width ≡ Some t → scalar_of (apply_to_words op a b) ≡ t
words_sorted And a b t h = cc
words_sorted Or a b t h = cc
words_sorted Implies a b t h = cc
words_sorted Iff a b t h = cc
words_sorted Eq a b t h = compared_by (nat_eq a.width b.width) t h
words_sorted Ne a b t h = compared_by (nat_eq a.width b.width) t h
words_sorted Concat a b t h = bits_if_is (nat_le (a.width + b.width) 64) (a.width + b.width) t h
words_sorted BvAnd a b t h = bits_if_is (nat_eq a.width b.width) a.width t h
words_sorted BvOr a b t h = bits_if_is (nat_eq a.width b.width) a.width t h
words_sorted BvXor a b t h = bits_if_is (nat_eq a.width b.width) a.width t h
words_sorted BvAdd a b t h = bits_if_is (nat_eq a.width b.width) a.width t h
words_sorted BvSub a b t h = bits_if_is (nat_eq a.width b.width) a.width t h
words_sorted BvMul a b t h = bits_if_is (nat_eq a.width b.width) a.width t h
words_sorted BvUdiv a b t h = bits_if_is (nat_eq a.width b.width) a.width t h
words_sorted BvUrem a b t h = bits_if_is (nat_eq a.width b.width) a.width t h
words_sorted BvSdiv a b t h = bits_if_is (nat_eq a.width b.width) a.width t h
words_sorted BvSrem a b t h = bits_if_is (nat_eq a.width b.width) a.width t h
words_sorted BvSmod a b t h = bits_if_is (nat_eq a.width b.width) a.width t h
words_sorted BvShl a b t h = bits_if_is (nat_eq a.width b.width) a.width t h
words_sorted BvLshr a b t h = bits_if_is (nat_eq a.width b.width) a.width t h
words_sorted BvAshr a b t h = bits_if_is (nat_eq a.width b.width) a.width t h
words_sorted BvUlt a b t h = compared_by (nat_eq a.width b.width) t h
words_sorted BvUle a b t h = compared_by (nat_eq a.width b.width) t h
words_sorted BvUgt a b t h = compared_by (nat_eq a.width b.width) t h
words_sorted BvUge a b t h = compared_by (nat_eq a.width b.width) t h
words_sorted BvSlt a b t h = compared_by (nat_eq a.width b.width) t h
words_sorted BvSle a b t h = compared_by (nat_eq a.width b.width) t h
words_sorted BvSgt a b t h = compared_by (nat_eq a.width b.width) t h
words_sorted BvSge a b t h = compared_by (nat_eq a.width b.width) t h

pub binary_sorted : (op : BvOp) (a b : Atom) (t : Scalar) → sort_of_binary op (scalar_of a) (scalar_of b) ≡ Some t → scalar_of (apply op a b) ≡ t
binary_sorted op (BoolAtom a) (BoolAtom b) t h = bools_sorted op t h
binary_sorted op (BoolAtom a) (BvAtom b) t h = cc
binary_sorted op (BvAtom a) (BoolAtom b) t h = cc
binary_sorted op (BvAtom a) (BvAtom b) t h = words_sorted op a b t h

-- ---- equal sorts

eq_is : (m n : ℕ) → nat_eq m n ≡ true → m ≡ n
eq_is m n h = grind (arith, nat_tests, h)

is_eq : (n : ℕ) → nat_eq n n ≡ true
is_eq n = grind (arith, nat_tests)

pub same_scalar_is : (s t : Scalar) → same_scalar s t ≡ true → s ≡ t
same_scalar_is BoolSort BoolSort h = refl
same_scalar_is BoolSort (BvSort w) h = cc
same_scalar_is (BvSort v) BoolSort h = cc
same_scalar_is (BvSort v) (BvSort w) h = ap BvSort (eq_is v w h)

pub same_scalar_self : (s : Scalar) → same_scalar s s ≡ true
same_scalar_self BoolSort = refl
same_scalar_self (BvSort w) = is_eq w

same_sort_is : (s t : Sort) → same_sort s t ≡ true → s ≡ t
same_sort_is (ScalarSort s) (ScalarSort t) h = ap ScalarSort (same_scalar_is s t h)
same_sort_is (ScalarSort s) (MapSort i e) h = cc
same_sort_is (MapSort i e) (ScalarSort t) h = cc
same_sort_is (MapSort i e) (MapSort j f) h =
    ap (λ x. MapSort x e) (same_scalar_is i j (left (same_scalar i j) (same_scalar e f) h))
    ∙ ap (λ y. MapSort j y) (same_scalar_is e f (right (same_scalar i j) (same_scalar e f) h))

pub has_scalar_is : (a : Atom) (s : Scalar) → has_scalar a s ≡ true → scalar_of a ≡ s
has_scalar_is (BoolAtom b) BoolSort h = refl
has_scalar_is (BoolAtom b) (BvSort w) h = cc
has_scalar_is (BvAtom v) BoolSort h = cc
has_scalar_is (BvAtom v) (BvSort w) h =
    ap BvSort (eq_is v.width w (left (nat_eq v.width w) (is_scalar (BvSort w)) (left (nat_eq v.width w && is_scalar (BvSort w)) (nat_lt v.bits (2 ^ w)) h)))

pub has_sort_is : (v : Value) (s : Sort) → has_sort v s ≡ true → sort_of v ≡ s
has_sort_is (AtomValue a) (ScalarSort s) h = ap ScalarSort (has_scalar_is a s h)
has_sort_is (AtomValue a) (MapSort i e) h = cc
has_sort_is (MapValue m) (ScalarSort s) h = cc
has_sort_is (MapValue m) (MapSort i e) h =
    let same : IsTrue (same_scalar m.index i && same_scalar m.elem e) = left (same_scalar m.index i && same_scalar m.elem e) (is_map m) h in
    ap (λ x. MapSort x m.elem) (same_scalar_is m.index i (left (same_scalar m.index i) (same_scalar m.elem e) same))
    ∙ ap (λ y. MapSort i y) (same_scalar_is m.elem e (right (same_scalar m.index i) (same_scalar m.elem e) same))

-- ---- values of nodes

as_sort_is : (o : Option Scalar) (s : Sort) (P : Type 0) → as_sort o ≡ Some s → ((t : Scalar) → o ≡ Some t → ScalarSort t ≡ s → P) → P
as_sort_is None s P h k = absurd (let no : None ≡ Some s → ⊥ = λ e. cc in no h)
as_sort_is (Some t) s P h k = let same : ScalarSort t ≡ s = cc in k t refl same

pub unary_value_sorted : (op : UnOp) (o : Option Value) (s : Sort) → unary_sort op (as_scalar (option_map sort_of o)) ≡ Some s → sort_of (unary_value op (default o)) ≡ s
unary_value_sorted op None s h = cc
unary_value_sorted op (Some (AtomValue a)) s h =
    as_sort_is (sort_of_unary op (scalar_of a)) s (ScalarSort (scalar_of (apply1 op a)) ≡ s) h (λ t is same. ap ScalarSort (unary_sorted op a t is) ∙ same)
unary_value_sorted op (Some (MapValue m)) s h = cc

pub binary_value_sorted : (op : BvOp) (o p : Option Value) (s : Sort) → binary_sort op (as_scalar (option_map sort_of o)) (as_scalar (option_map sort_of p)) ≡ Some s
    → sort_of (binary_value op (default o) (default p)) ≡ s
binary_value_sorted op None p s h = cc
binary_value_sorted op (Some (AtomValue a)) None s h = cc
binary_value_sorted op (Some (AtomValue a)) (Some (AtomValue b)) s h =
    as_sort_is (sort_of_binary op (scalar_of a) (scalar_of b)) s (ScalarSort (scalar_of (apply op a b)) ≡ s) h (λ t is same. ap ScalarSort (binary_sorted op a b t is) ∙ same)
binary_value_sorted op (Some (AtomValue a)) (Some (MapValue n)) s h = cc
binary_value_sorted op (Some (MapValue m)) p s h = cc

some_sorted : (o : Option Value) (s : Sort) → option_map sort_of o ≡ Some s → sort_of (default o) ≡ s
some_sorted None s h = cc
some_sorted (Some v) s h = cc

branch_by : (same : Bool) (a b s : Sort) → same_sort a b ≡ same → (if same then Some a else None) ≡ Some s → (a ≡ s) × (b ≡ s)
branch_by true a b s is h = let one : a ≡ s = cc in (one, sym (same_sort_is a b is) ∙ one)
branch_by false a b s is h = absurd (let no : None ≡ Some s → ⊥ = λ e. cc in no h)

branch_sorted : (o p : Option Value) (s : Sort) → branch_sort (option_map sort_of o) (option_map sort_of p) ≡ Some s → (sort_of (default o) ≡ s) × (sort_of (default p) ≡ s)
branch_sorted None p s h = absurd (let no : None ≡ Some s → ⊥ = λ e. cc in no h)
branch_sorted (Some v) None s h = absurd (let no : None ≡ Some s → ⊥ = λ e. cc in no h)
branch_sorted (Some v) (Some w) s h = branch_by (same_sort (sort_of v) (sort_of w)) (sort_of v) (sort_of w) s refl h

picked : (b : Bool) (v w : Value) (s : Sort) → (sort_of v ≡ s) × (sort_of w ≡ s) → sort_of (if b then v else w) ≡ s
picked true v w s h = h.0
picked false v w s h = h.1

if_by : (c : Option Scalar) (o p : Option Sort) (s : Sort) → if_sort c o p ≡ Some s → branch_sort o p ≡ Some s
if_by None o p s h = cc
if_by (Some BoolSort) o p s h = h
if_by (Some (BvSort w)) o p s h = cc

pub pick_sorted : (c : Option Value) (o p : Option Value) (s : Sort) → if_sort (as_scalar (option_map sort_of c)) (option_map sort_of o) (option_map sort_of p) ≡ Some s
    → sort_of (pick (default c) (default o) (default p)) ≡ s
pick_sorted c o p s h =
    picked (is_on (default c)) (default o) (default p) s (branch_sorted o p s (if_by (as_scalar (option_map sort_of c)) (option_map sort_of o) (option_map sort_of p) s h))

entry_scalar_by : (same : Bool) (none v : Atom) (rest : Atom) (elem : Scalar) → scalar_of v ≡ elem → scalar_of rest ≡ elem → scalar_of (if same then v else rest) ≡ elem
entry_scalar_by true none v rest elem h k = h
entry_scalar_by false none v rest elem h k = k

pub entry_scalar : (index elem : Scalar) (none : Atom) (ps : List (Atom × Atom)) (i : Atom) → scalar_of none ≡ elem → pairs_fit index elem ps ≡ true → scalar_of (entry none ps i) ≡ elem
entry_scalar index elem none [] i z f = z
entry_scalar index elem none (p ∷ ps) i z f =
    let first : pair_fits index elem p ≡ true = left (pair_fits index elem p) (pairs_fit index elem ps) f in
    let two : IsTrue (has_scalar p.0 index && has_scalar p.1 elem) = left (has_scalar p.0 index && has_scalar p.1 elem) (not (is_zero p.1)) first in
    entry_scalar_by (nat_eq (rank p.0) (rank i)) none p.1 (entry none ps i) elem
    (has_scalar_is p.1 elem (right (has_scalar p.0 index) (has_scalar p.1 elem) two))
    (entry_scalar index elem none ps i z (right (pair_fits index elem p) (pairs_fit index elem ps) f))

pub zero_scalar : (s : Scalar) → scalar_of (zero_of_scalar s) ≡ s
zero_scalar BoolSort = refl
zero_scalar (BvSort w) = refl

-- the value is one of its sort
abbrev pub kept : Value → Type 0
kept v = IsTrue (has_sort v (sort_of v))

pub kept_map : (m : Table) → kept (MapValue m) → IsTrue (is_map m)
kept_map m h = right (same_scalar m.index m.index && same_scalar m.elem m.elem) (is_map m) h

entry_by : (index elem : Scalar) (o : Option Scalar) (s : Sort) → entry_sort index elem o ≡ Some s → ScalarSort elem ≡ s
entry_by index elem None s h = cc
entry_by index elem (Some t) s h = entry_test (same_scalar t index) elem s h
  where
    entry_test : (same : Bool) (elem : Scalar) (s : Sort) → (if same then Some (ScalarSort elem) else None) ≡ Some s → ScalarSort elem ≡ s
    entry_test true elem s h = cc
    entry_test false elem s h = cc

pub select_sorted : (o p : Option Value) (s : Sort) → kept (default o) → select_sort (option_map sort_of o) (as_scalar (option_map sort_of p)) ≡ Some s
    → sort_of (select_value (default o) (default p)) ≡ s
select_sorted None p s k h = cc
select_sorted (Some (AtomValue a)) p s k h = cc
select_sorted (Some (MapValue m)) p s k h =
    ap ScalarSort (entry_scalar m.index m.elem (zero_of_scalar m.elem) m.pairs (atom_of (default p)) (zero_scalar m.elem) (left (pairs_fit m.index m.elem m.pairs) (ascends m.pairs) (kept_map m k)))
    ∙ entry_by m.index m.elem (as_scalar (option_map sort_of p)) s h

written_test : (same : Bool) (r s : Sort) → (if same then Some r else None) ≡ Some s → r ≡ s
written_test true r s h = cc
written_test false r s h = cc

written_by : (index elem : Scalar) (o p : Option Scalar) (s : Sort) → written_sort index elem o p ≡ Some s → MapSort index elem ≡ s
written_by index elem None p s h = cc
written_by index elem (Some t) None s h = cc
written_by index elem (Some t) (Some u) s h = written_test (same_scalar t index && same_scalar u elem) (MapSort index elem) s h

pub store_sorted : (o p q : Option Value) (s : Sort) → store_sort (option_map sort_of o) (as_scalar (option_map sort_of p)) (as_scalar (option_map sort_of q)) ≡ Some s
    → sort_of (store_value (default o) (default p) (default q)) ≡ s
store_sorted None p q s h = cc
store_sorted (Some (AtomValue a)) p q s h = cc
store_sorted (Some (MapValue m)) p q s h = written_by m.index m.elem (as_scalar (option_map sort_of p)) (as_scalar (option_map sort_of q)) s h
