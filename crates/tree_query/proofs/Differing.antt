-- Constants that differ.
use Rattle.std.proofs.Common.{◌≡◌, ℕ, zero, suc, ◌+◌, ◌≤◌, Bool, true, false, not, ◌&&◌, if◌then◌else◌, List, [], ◌∷◌, ◌++◌, length, map, drop, arith, sym, ◌∙◌, ap, refl, subst}
use Rattle.std.specs.Prelude.{Option, None, Some, slice_get, slice_index, nat_eq, IsTrue, IsSome}
use Rattle.std.specs.List.{list_all}
use Rattle.std.proofs.lemmas.Bool.Decides.{nat_tests}
use Rattle.hy_val.specs.NodeSorts.{same_sort}
use Rattle.hy_val.specs.Operators.{sort_of_binary}
use Rattle.hy_val.specs.Sorts.{is_scalar, same_scalar}
use Rattle.hy_val.specs.Stores.{same_value}
use Rattle.hy_val.specs.Values.{at, is_on, has_sort, binary_value}
use Rattle.hy_val.specs.declared.atom.AtomKind.TheVariants.{Bool as BoolAtom, Bv as BvAtom}
use Rattle.hy_val.specs.declared.operator.BvOp.TheVariants.{Ne}
use Rattle.hy_val.specs.declared.sort.Scalar.{Scalar}
use Rattle.hy_val.specs.declared.sort.ScalarKind.TheVariants.{Bool as BoolSort, Bv as BvSort}
use Rattle.hy_val.specs.declared.sort.Sort.{Sort}
use Rattle.hy_val.specs.declared.sort.SortKind.TheVariants.{Scalar as ScalarSort, Map as MapSort}
use Rattle.hy_val.specs.declared.value.Value.{Value}
use Rattle.hy_val.specs.declared.value.Value.TheVariants.{Atom as AtomValue, Map as MapValue}
use Rattle.hy_term.specs.TermSorts.{sorts, sort_at, fits_behind}
use Rattle.hy_term.specs.Meaning.{fits, value, values}
use Rattle.hy_term.specs.Laws.{EachValueHasItsSort, NewValue}
use Rattle.hy_term.specs.declared.node.TermNode.{TermNode}
use Rattle.hy_term.specs.declared.node.TermNode.TheVariants.{Binary}
use Rattle.hy_term.proofs.Sorting.{and_left, and_right}
use Rattle.hy_term.proofs.Typing.{same_sort_is}
use Rattle.tree_terms.specs.Rules.{IsBit, IsBool, bit}
use Rattle.tree_terms.specs.Standing.{AreOf, all_at}
use Rattle.tree_terms.proofs.Growth.{are_at, grows_not}
use Rattle.tree_query.specs.Allowing.{scalar_by, is_scalar_at, differ}
use Rattle.tree_query.proofs.Conjoining.{and_true, binary_bit, binary_fits, bit_after, bit_later, bit_stays}

-- ---- two values

pub ne_sort : (s : Scalar) → sort_of_binary Ne s s ≡ Some BoolSort
ne_sort BoolSort = refl
ne_sort (BvSort w) = let e : nat_eq w w ≡ true = grind (arith, nat_tests) in ap (λ (b : Bool). if b then Some BoolSort else None) e

bools_differ : (a b : Bool) → is_on (binary_value Ne (AtomValue (BoolAtom a)) (AtomValue (BoolAtom b))) ≡ not (same_value (AtomValue (BoolAtom a)) (AtomValue (BoolAtom b)))
bools_differ true b = refl
bools_differ false b = refl

pub ne_on : (v w : Value) (s : Scalar) → has_sort v (ScalarSort s) ≡ true → has_sort w (ScalarSort s) ≡ true → is_on (binary_value Ne v w) ≡ not (same_value v w)
ne_on (AtomValue (BoolAtom a)) (AtomValue (BoolAtom b)) s h k = bools_differ a b
ne_on (AtomValue (BoolAtom a)) (AtomValue (BvAtom b)) BoolSort h k = cc
ne_on (AtomValue (BoolAtom a)) (AtomValue (BvAtom b)) (BvSort n) h k = cc
ne_on (AtomValue (BvAtom a)) (AtomValue (BoolAtom b)) BoolSort h k = cc
ne_on (AtomValue (BvAtom a)) (AtomValue (BoolAtom b)) (BvSort n) h k = cc
ne_on (AtomValue (BvAtom a)) (AtomValue (BvAtom b)) BoolSort h k = cc
ne_on (AtomValue (BvAtom a)) (AtomValue (BvAtom b)) (BvSort n) h k =
    let x : nat_eq a.width n ≡ true = first (nat_eq a.width n) (is_scalar (BvSort n)) _ h in
    let y : nat_eq b.width n ≡ true = first (nat_eq b.width n) (is_scalar (BvSort n)) _ k in
    let same : nat_eq a.width b.width ≡ true = grind (arith, nat_tests, x, y) in
    sym (ap (λ (t : Bool). not (t && nat_eq a.bits b.bits)) same)
  where
    first : (x y z : Bool) → (x && y && z) ≡ true → x ≡ true
    first true y z h = refl
    first false y z h = cc
ne_on (AtomValue a) (MapValue n) s h k = cc
ne_on (MapValue m) w s h k = cc

-- values of different sorts differ
pub apart : (v w : Value) (s t : Scalar) → has_sort v (ScalarSort s) ≡ true → has_sort w (ScalarSort t) ≡ true → same_scalar s t ≡ false → true ≡ not (same_value v w)
apart (AtomValue (BoolAtom a)) (AtomValue (BoolAtom b)) BoolSort BoolSort h k d = cc
apart (AtomValue (BoolAtom a)) (AtomValue (BoolAtom b)) BoolSort (BvSort n) h k d = cc
apart (AtomValue (BoolAtom a)) (AtomValue (BoolAtom b)) (BvSort m) t h k d = cc
apart (AtomValue (BoolAtom a)) (AtomValue (BvAtom b)) s t h k d = refl
apart (AtomValue (BvAtom a)) (AtomValue (BoolAtom b)) s t h k d = refl
apart (AtomValue (BvAtom a)) (AtomValue (BvAtom b)) BoolSort t h k d = cc
apart (AtomValue (BvAtom a)) (AtomValue (BvAtom b)) (BvSort m) BoolSort h k d = cc
apart (AtomValue (BvAtom a)) (AtomValue (BvAtom b)) (BvSort m) (BvSort n) h k d =
    let x : nat_eq a.width m ≡ true = first (nat_eq a.width m) (is_scalar (BvSort m)) _ h in
    let y : nat_eq b.width n ≡ true = first (nat_eq b.width n) (is_scalar (BvSort n)) _ k in
    let other : nat_eq a.width b.width ≡ false = grind (arith, nat_tests, x, y, d) in
    sym (ap (λ (t : Bool). not (t && nat_eq a.bits b.bits)) other)
  where
    first : (x y z : Bool) → (x && y && z) ≡ true → x ≡ true
    first true y z h = refl
    first false y z h = cc
apart (AtomValue a) (MapValue n) s t h k d = cc
apart (MapValue m) w s t h k d = cc

-- ---- two constants

-- a constant that is there and no map
pub record IsScalar (sorts : List Sort) (n : ℕ) : Type 0 where
  pub sort : Scalar
  pub is : slice_get sorts n ≡ Some (ScalarSort sort)

scalar_of_option : (o : Option Sort) → scalar_by o ≡ true → (s : Scalar) × (o ≡ Some (ScalarSort s))
scalar_of_option None h = cc
scalar_of_option (Some (ScalarSort s)) h = (s, refl)
scalar_of_option (Some (MapSort i e)) h = cc

pub scalar_at : (sorts : List Sort) (n : ℕ) → is_scalar_at sorts n ≡ true → IsScalar sorts n
scalar_at sorts n h = let s = scalar_of_option (slice_get sorts n) h in record { sort = s.0; is = s.1 }

mapped : (vs : List Value) (nodes : List TermNode) (ts : List ℕ) (ss : List Sort) (n : ℕ) (s : Sort) → AreOf nodes ts ss → slice_get ss n ≡ Some s → at (map (at vs) ts) n ≡ at vs (slice_index ts n)
mapped vs nodes [] [] n s h is = cc
mapped vs nodes [] (r ∷ ss) n s h is = absurd h
mapped vs nodes (t ∷ ts) [] n s h is = cc
mapped vs nodes (t ∷ ts) (r ∷ ss) zero s h is = refl
mapped vs nodes (t ∷ ts) (r ∷ ss) (suc n) s (h, hs) is = mapped vs nodes ts ss n s hs is

pub const_value : (a : ℕ → Value) (nodes : List TermNode) (consts : List ℕ) (sorts : List Sort) (n : ℕ) (s : Sort) → AreOf nodes consts sorts → slice_get sorts n ≡ Some s
    → value a nodes (slice_index consts n) ≡ at (all_at a nodes consts) n
const_value a nodes consts sorts n s are is = sym (mapped (values a nodes) nodes consts sorts n s are is)

pub const_sorted : EachValueHasItsSort → (a : ℕ → Value) (nodes : List TermNode) (consts : List ℕ) (sorts : List Sort) (n : ℕ) (s : Sort) → IsTrue (fits a nodes) → AreOf nodes consts sorts → slice_get sorts n ≡ Some s
    → has_sort (at (all_at a nodes consts) n) s ≡ true
const_sorted law a nodes consts sorts n s fit are is =
    subst (λ (v : Value). has_sort v s ≡ true) (const_value a nodes consts sorts n s are is) (law a nodes (slice_index consts n) s fit (are_at nodes consts sorts n s are is))

-- the operator says whether two constants of one sort differ
pub difference_is : EachValueHasItsSort → (a : ℕ → Value) (nodes : List TermNode) (consts : List ℕ) (sorts : List Sort) (n m : ℕ) (s : Scalar) → IsTrue (fits a nodes) → AreOf nodes consts sorts
    → slice_get sorts n ≡ Some (ScalarSort s) → slice_get sorts m ≡ Some (ScalarSort s)
    → is_on (binary_value Ne (value a nodes (slice_index consts n)) (value a nodes (slice_index consts m))) ≡ differ (all_at a nodes consts) n m
difference_is law a nodes consts sorts n m s fit are hn hm =
    ap (λ (v : Value). is_on (binary_value Ne v (value a nodes (slice_index consts m)))) (const_value a nodes consts sorts n (ScalarSort s) are hn)
    ∙ ap (λ (v : Value). is_on (binary_value Ne (at (all_at a nodes consts) n) v)) (const_value a nodes consts sorts m (ScalarSort s) are hm)
    ∙ ne_on (at (all_at a nodes consts) n) (at (all_at a nodes consts) m) s (const_sorted law a nodes consts sorts n (ScalarSort s) fit are hn) (const_sorted law a nodes consts sorts m (ScalarSort s) fit are hm)

-- constants of different sorts always do
pub others_differ : EachValueHasItsSort → (a : ℕ → Value) (nodes : List TermNode) (consts : List ℕ) (sorts : List Sort) (n m : ℕ) (s t : Sort) → IsTrue (fits a nodes) → AreOf nodes consts sorts
    → is_scalar_at sorts n ≡ true → is_scalar_at sorts m ≡ true → slice_get sorts n ≡ Some s → slice_get sorts m ≡ Some t → same_sort s t ≡ false → true ≡ differ (all_at a nodes consts) n m
others_differ law a nodes consts sorts n m s t fit are hn hm is_n is_m other =
    let x = scalar_at sorts n hn in
    let y = scalar_at sorts m hm in
    let sx : Some s ≡ Some (ScalarSort x.sort) = sym is_n ∙ x.is in
    let sy : Some t ≡ Some (ScalarSort y.sort) = sym is_m ∙ y.is in
    let ex : s ≡ ScalarSort x.sort = cc in
    let ey : t ≡ ScalarSort y.sort = cc in
    apart (at (all_at a nodes consts) n) (at (all_at a nodes consts) m) x.sort y.sort (const_sorted law a nodes consts sorts n (ScalarSort x.sort) fit are x.is) (const_sorted law a nodes consts sorts m (ScalarSort y.sort) fit are y.is)
    (sym (ap (λ (r : Sort). same_sort r t) ex ∙ ap (same_sort (ScalarSort x.sort)) ey) ∙ other)

-- ---- lists of numbers

pub drop_number : (ns : List ℕ) (i n : ℕ) → slice_get ns i ≡ Some n → drop i ns ≡ n ∷ drop (i + 1) ns
drop_number ns i n h = let next : suc i ≡ i + 1 = omega arith in by_suc ns i n h ∙ ap (λ (k : ℕ). n ∷ drop k ns) next
  where
    by_suc : (ms : List ℕ) (j m : ℕ) → slice_get ms j ≡ Some m → drop j ms ≡ m ∷ drop (suc j) ms
    by_suc [] j m h = cc
    by_suc (k ∷ ms) zero m h = let same : k ≡ m = cc in ap (λ (x : ℕ). x ∷ ms) same
    by_suc (k ∷ ms) (suc j) m h = by_suc ms j m h

pub drop_numbers : (ns : List ℕ) (i : ℕ) → length ns ≤ i → drop i ns ≡ []
drop_numbers [] zero l = refl
drop_numbers [] (suc i) l = refl
drop_numbers (n ∷ ns) zero l = absurd (omega (arith, l))
drop_numbers (n ∷ ns) (suc i) l = drop_numbers ns i (omega (arith, l))

pub all_at_place : (p : ℕ → Bool) (ns : List ℕ) (i n : ℕ) → list_all p ns ≡ true → slice_get ns i ≡ Some n → p n ≡ true
all_at_place p [] i n h is = cc
all_at_place p (m ∷ ns) zero n h is = let same : m ≡ n = cc in subst (λ (k : ℕ). p k ≡ true) same (and_left (p m) (list_all p ns) h)
all_at_place p (m ∷ ns) (suc i) n h is = all_at_place p ns i n (and_right (p m) (list_all p ns) h) is

pub all_behind : (p : ℕ → Bool) (ns : List ℕ) (i : ℕ) → list_all p ns ≡ true → list_all p (drop i ns) ≡ true
all_behind p [] zero h = refl
all_behind p [] (suc i) h = refl
all_behind p (n ∷ ns) zero h = h
all_behind p (n ∷ ns) (suc i) h = all_behind p ns i (and_right (p n) (list_all p ns) h)

-- the bool that the operator makes of two constants of one sort
pub difference_fits : (nodes : List TermNode) (consts : List ℕ) (sorts : List Sort) (n m l r : ℕ) → AreOf nodes consts sorts → is_scalar_at sorts n ≡ true → slice_get sorts m ≡ slice_get sorts n → l ≡ slice_index consts n
    → r ≡ slice_index consts m → IsTrue (fits_behind nodes (Binary Ne l r))
difference_fits nodes consts sorts n m l r are hn same el er =
    let s = scalar_at sorts n hn in
    binary_fits nodes Ne l r s.sort s.sort (ap (sort_at nodes) el ∙ are_at nodes consts sorts n (ScalarSort s.sort) are s.is) (ap (sort_at nodes) er ∙ are_at nodes consts sorts m (ScalarSort s.sort) are (same ∙ s.is)) (ne_sort s.sort)

pub difference_bit : NewValue → EachValueHasItsSort → (old new : List TermNode) (consts : List ℕ) (sorts : List Sort) (n m l r t : ℕ) → AreOf old consts sorts → is_scalar_at sorts n ≡ true → slice_get sorts m ≡ slice_get sorts n
    → l ≡ slice_index consts n → r ≡ slice_index consts m → new ≡ old ++ Binary Ne l r ∷ [] → t ≡ length old → IsBit old new (λ a. differ (all_at a old consts) n m) t
difference_bit law sorted old new consts sorts n m l r t are hn same el er is number =
    let s = scalar_at sorts n hn in
    binary_bit law old new Ne l r t s.sort s.sort (λ a. differ (all_at a old consts) n m) (ap (sort_at old) el ∙ are_at old consts sorts n (ScalarSort s.sort) are s.is)
    (ap (sort_at old) er ∙ are_at old consts sorts m (ScalarSort s.sort) are (same ∙ s.is)) (ne_sort s.sort) is number
    (λ a fit. ap (λ (k : ℕ). is_on (binary_value Ne (value a old k) (value a old r))) el ∙ ap (λ (k : ℕ). is_on (binary_value Ne (value a old (slice_index consts n)) (value a old k))) er
    ∙ difference_is sorted a old consts sorts n m s.sort fit are s.is (same ∙ s.is))

-- where the sorts differ there is nothing to say
pub apart_bit : EachValueHasItsSort → (old : List TermNode) (consts : List ℕ) (ss : List Sort) (n m all : ℕ) (s t : Sort) → IsSome (sorts old) → IsBool old all → AreOf old consts ss → is_scalar_at ss n ≡ true → is_scalar_at ss m ≡ true
    → slice_get ss n ≡ Some s → slice_get ss m ≡ Some t → same_sort s t ≡ false → IsBit old old (λ a. bit a old all && differ (all_at a old consts) n m) all
apart_bit law old consts ss n m all s t ok is are hn hm is_n is_m other = record {
  grows = grows_not old;
  sorted = ok;
  bool = is;
  fit = λ a h. h;
  low = λ k h. h;
  means = λ a h. and_true (bit a old all) ∙ ap (λ (x : Bool). bit a old all && x) (others_differ law a old consts ss n m s t h are hn hm is_n is_m other);
}

sort_same : (s t : Sort) (o p : Option Sort) → o ≡ Some s → p ≡ Some t → same_sort s t ≡ true → p ≡ o
sort_same s t o p ho hp h = hp ∙ ap (λ (x : Sort). Some x) (sym (same_sort_is s t h)) ∙ sym ho

pub same_sorts : (ss : List Sort) (n m : ℕ) (s t : Sort) → slice_get ss n ≡ Some s → slice_get ss m ≡ Some t → same_sort s t ≡ true → slice_get ss m ≡ slice_get ss n
same_sorts ss n m s t hn hm h = sort_same s t (slice_get ss n) (slice_get ss m) hn hm h

-- a bool with another that is made behind it
pub with_bit : (old mid new : List TermNode) (part : (ℕ → Value) → Bool) (all d t : ℕ) → IsBool old all → IsBit old mid part d → IsBit mid new (λ a. bit a mid all && bit a mid d) t → IsBit old new (λ a. bit a old all && part a) t
with_bit old mid new part all d t is x y =
    bit_after old mid new part (λ a. bit a mid all && bit a mid d) (λ a. bit a old all && part a) d t x y
    (λ a fit h. ap (λ (b : Bool). b && bit a mid d) (bit_stays a old mid all (bit_later old mid part d x) is) ∙ ap (λ (b : Bool). bit a old all && b) h)

pub none_index : (ns : List ℕ) (i : ℕ) → slice_get ns i ≡ None → 0 ≡ slice_index ns i
none_index [] i h = refl
none_index (n ∷ ns) zero h = cc
none_index (n ∷ ns) (suc i) h = none_index ns i h

pub not_true : (b : Bool) → not b ≡ true → b ≡ false
not_true true h = cc
not_true false h = refl
