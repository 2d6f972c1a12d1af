-- Bools that are put behind others, and what a growing conjunction says.
use Rattle.std.proofs.Common.{◌≡◌, ℕ, Bool, true, false, ◌&&◌, List, [], ◌∷◌, ◌++◌, length, sym, ◌∙◌, ap, refl}
use Rattle.std.specs.Prelude.{Option, None, Some, IsTrue, IsSome}
use Rattle.std.specs.Option.{option_and_then}
use Rattle.hy_val.specs.Operators.{sort_of_binary}
use Rattle.hy_val.specs.Values.{is_on, has_sort, binary_value}
use Rattle.hy_val.specs.declared.atom.AtomKind.TheVariants.{Bool as BoolAtom, Bv as BvAtom}
use Rattle.hy_val.specs.declared.operator.BvOp.{BvOp}
use Rattle.hy_val.specs.declared.operator.BvOp.TheVariants.{And}
use Rattle.hy_val.specs.declared.sort.Scalar.{Scalar}
use Rattle.hy_val.specs.declared.sort.ScalarKind.TheVariants.{Bool as BoolSort}
use Rattle.hy_val.specs.declared.sort.Sort.{Sort}
use Rattle.hy_val.specs.declared.sort.SortKind.TheVariants.{Scalar as ScalarSort}
use Rattle.hy_val.specs.declared.value.Value.{Value}
use Rattle.hy_val.specs.declared.value.Value.TheVariants.{Atom as AtomValue, Map as MapValue}
use Rattle.hy_term.specs.TermSorts.{sorts, sort_of_node, sort_at, sort_behind, fits_behind}
use Rattle.hy_term.specs.Meaning.{fits, node_fits, node_value, value, values, Grows}
use Rattle.hy_term.specs.Variables.{below, node_below}
use Rattle.hy_term.specs.Laws.{NewValue, EachValueHasItsSort}
use Rattle.hy_term.specs.declared.node.TermNode.{TermNode}
use Rattle.hy_term.specs.declared.node.TermNode.TheVariants.{Binary, Lit}
use Rattle.tree_terms.specs.Rules.{IsBit, IsBool, bit}
use Rattle.tree_terms.specs.Standing.{Later, Plain}
use Rattle.tree_terms.proofs.Growth.{behind_binary, fits_by, fits_before, grows_on, grows_not, later_push, plain_push, sort_added, sort_later, sort_within, value_later}

-- ---- a node more

-- a bool that is added
pub bit_added : NewValue → (old new : List TermNode) (node : TermNode) (t : ℕ) (meaning : (ℕ → Value) → Bool) → sort_behind old node ≡ Some (ScalarSort BoolSort) → ((k : ℕ) → node_below k node ≡ true)
    → ((a : ℕ → Value) → node_fits a node ≡ true) → new ≡ old ++ node ∷ [] → t ≡ length old → ((a : ℕ → Value) → IsTrue (fits a old) → is_on (node_value a (values a old) node) ≡ meaning a) → IsBit old new meaning t
bit_added law old new node t meaning sort low fit is number means =
    let later : Later old new = later_push old new node (ScalarSort BoolSort) sort is in
    let plain : Plain old new = plain_push old new node low fit is in
    record {
      grows = later.nodes;
      sorted = later.sound;
      bool = ap (λ (ns : List TermNode). sort_at ns t) is ∙ ap (sort_at (old ++ node ∷ [])) number ∙ sort_added old node (ScalarSort BoolSort) sort;
      fit = plain.fit;
      low = plain.below;
      means = λ a h.
          ap (λ (ns : List TermNode). is_on (value a ns t)) is ∙ ap (λ (k : ℕ). is_on (value a (old ++ node ∷ []) k)) number ∙ ap is_on (law a old node)
          ∙ means a (fits_before a old new later.nodes h);
    }

-- the literal true
pub true_behind : (old : List TermNode) → IsSome (sorts old) → sort_behind old (Lit (BoolAtom true)) ≡ Some (ScalarSort BoolSort)
true_behind old h = by_sorts (sorts old) h
  where
    by_sorts : (o : Option (List Sort)) → IsSome o → option_and_then (λ ss. sort_of_node ss (Lit (BoolAtom true))) o ≡ Some (ScalarSort BoolSort)
    by_sorts None h = cc
    by_sorts (Some ss) h = refl

pub true_bit : NewValue → (old new : List TermNode) (t : ℕ) → IsSome (sorts old) → new ≡ old ++ Lit (BoolAtom true) ∷ [] → t ≡ length old → IsBit old new (λ a. true) t
true_bit law old new t sorted is number = bit_added law old new (Lit (BoolAtom true)) t (λ a. true) (true_behind old sorted) (λ k. refl) (λ a. refl) is number (λ a fit. refl)

pub true_fits : (old : List TermNode) → IsSome (sorts old) → IsTrue (fits_behind old (Lit (BoolAtom true)))
true_fits old sorted = fits_by old (Lit (BoolAtom true)) (ScalarSort BoolSort) (true_behind old sorted) refl

pub binary_behind : (old : List TermNode) (op : BvOp) (l r : ℕ) (s t : Scalar) → sort_at old l ≡ Some (ScalarSort s) → sort_at old r ≡ Some (ScalarSort t) → sort_of_binary op s t ≡ Some BoolSort
    → sort_behind old (Binary op l r) ≡ Some (ScalarSort BoolSort)
binary_behind old op l r s t hl hr h = behind_binary old op l r s t BoolSort hl hr h

pub binary_fits : (old : List TermNode) (op : BvOp) (l r : ℕ) (s t : Scalar) → sort_at old l ≡ Some (ScalarSort s) → sort_at old r ≡ Some (ScalarSort t) → sort_of_binary op s t ≡ Some BoolSort
    → IsTrue (fits_behind old (Binary op l r))
binary_fits old op l r s t hl hr h = fits_by old (Binary op l r) (ScalarSort BoolSort) (binary_behind old op l r s t hl hr h) refl

-- a bool that an operator makes of two scalars
pub binary_bit : NewValue → (old new : List TermNode) (op : BvOp) (l r t : ℕ) (s u : Scalar) (meaning : (ℕ → Value) → Bool) → sort_at old l ≡ Some (ScalarSort s) → sort_at old r ≡ Some (ScalarSort u)
    → sort_of_binary op s u ≡ Some BoolSort → new ≡ old ++ Binary op l r ∷ [] → t ≡ length old → ((a : ℕ → Value) → IsTrue (fits a old) → is_on (binary_value op (value a old l) (value a old r)) ≡ meaning a) → IsBit old new meaning t
binary_bit law old new op l r t s u meaning hl hr h is number means =
    bit_added law old new (Binary op l r) t meaning (binary_behind old op l r s u hl hr h) (λ k. refl) (λ a. refl) is number means

and_on : (v w : Value) → has_sort v (ScalarSort BoolSort) ≡ true → has_sort w (ScalarSort BoolSort) ≡ true → is_on (binary_value And v w) ≡ (is_on v && is_on w)
and_on (AtomValue (BoolAtom a)) (AtomValue (BoolAtom b)) h k = refl
and_on (AtomValue (BoolAtom a)) (AtomValue (BvAtom b)) h k = cc
and_on (AtomValue (BoolAtom a)) (MapValue n) h k = cc
and_on (AtomValue (BvAtom a)) w h k = cc
and_on (MapValue m) w h k = cc

pub both_bit : NewValue → EachValueHasItsSort → (old new : List TermNode) (l r t : ℕ) → IsBool old l → IsBool old r → new ≡ old ++ Binary And l r ∷ [] → t ≡ length old → IsBit old new (λ a. bit a old l && bit a old r) t
both_bit law sorted old new l r t hl hr is number =
    binary_bit law old new And l r t BoolSort BoolSort (λ a. bit a old l && bit a old r) hl hr refl is number
    (λ a fit. and_on (value a old l) (value a old r) (sorted a old l (ScalarSort BoolSort) fit hl) (sorted a old r (ScalarSort BoolSort) fit hr))

-- ---- one bit after the other

pub bit_later : (old new : List TermNode) (meaning : (ℕ → Value) → Bool) (t : ℕ) → IsBit old new meaning t → Later old new
bit_later old new meaning t b = record { nodes = b.grows; sound = b.sorted }

pub bit_stays : (a : ℕ → Value) (old new : List TermNode) (t : ℕ) → Later old new → IsBool old t → bit a new t ≡ bit a old t
bit_stays a old new t later is = ap is_on (value_later old new a t later (sort_within old t (ScalarSort BoolSort) is))

pub bool_stays : (old new : List TermNode) (t : ℕ) → Later old new → IsBool old t → IsBool new t
bool_stays old new t later is = sort_later old new t (ScalarSort BoolSort) later is

-- a bit among terms that have grown, by what it says of the first ones
pub bit_after : (old mid new : List TermNode) (m n k : (ℕ → Value) → Bool) (t u : ℕ) → IsBit old mid m t → IsBit mid new n u → ((a : ℕ → Value) → IsTrue (fits a mid) → bit a mid t ≡ m a → n a ≡ k a) → IsBit old new k u
bit_after old mid new m n k t u x y same = record {
  grows = grows_on old mid new x.grows y.grows;
  sorted = y.sorted;
  bool = y.bool;
  fit = λ a h. y.fit a (x.fit a h);
  low = λ i h. y.low i (x.low i h);
  means = λ a h. let mid_fit = fits_before a mid new y.grows h in y.means a h ∙ same a mid_fit (x.means a mid_fit);
}

-- the conjunction so far and what is left to be said are the whole
pub record Conjoins (old cur : List TermNode) (rest whole : (ℕ → Value) → Bool) (t : ℕ) : Type 0 where
  pub grows : Grows old cur
  pub sorted : IsSome (sorts cur)
  pub bool : IsBool cur t
  pub fit : (a : ℕ → Value) → IsTrue (fits a old) → IsTrue (fits a cur)
  pub low : (k : ℕ) → IsTrue (below k old) → IsTrue (below k cur)
  pub means : (a : ℕ → Value) → IsTrue (fits a cur) → (bit a cur t && rest a) ≡ whole a

pub conjoins_later : (old cur : List TermNode) (rest whole : (ℕ → Value) → Bool) (t : ℕ) → Conjoins old cur rest whole t → Later old cur
conjoins_later old cur rest whole t c = record { nodes = c.grows; sound = c.sorted }

pub conjoin_start : (old : List TermNode) (rest : (ℕ → Value) → Bool) (t : ℕ) → IsSome (sorts old) → IsBool old t → Conjoins old old rest (λ a. bit a old t && rest a) t
conjoin_start old rest t sorted is = record { grows = grows_not old; sorted = sorted; bool = is; fit = λ a h. h; low = λ k h. h; means = λ a h. refl }

and_assoc : (x y z : Bool) → ((x && y) && z) ≡ (x && (y && z))
and_assoc true y z = refl
and_assoc false y z = refl

pub conjoin_next : (old cur new : List TermNode) (rest more whole part : (ℕ → Value) → Bool) (t u : ℕ) → Conjoins old cur rest whole t → IsBit cur new (λ a. bit a cur t && part a) u
    → ((a : ℕ → Value) → IsTrue (fits a cur) → rest a ≡ (part a && more a)) → Conjoins old new more whole u
conjoin_next old cur new rest more whole part t u c b same = record {
  grows = grows_on old cur new c.grows b.grows;
  sorted = b.sorted;
  bool = b.bool;
  fit = λ a h. b.fit a (c.fit a h);
  low = λ k h. b.low k (c.low k h);
  means = λ a h. let fit = fits_before a cur new b.grows h in
      ap (λ (x : Bool). x && more a) (b.means a h) ∙ and_assoc (bit a cur t) (part a) (more a) ∙ ap (λ (x : Bool). bit a cur t && x) (sym (same a fit)) ∙ c.means a fit;
}

pub and_true : (x : Bool) → x ≡ (x && true)
and_true true = refl
and_true false = refl

pub conjoin_end : (old cur : List TermNode) (rest whole : (ℕ → Value) → Bool) (t : ℕ) → Conjoins old cur rest whole t → ((a : ℕ → Value) → rest a ≡ true) → IsBit old cur whole t
conjoin_end old cur rest whole t c over = record {
  grows = c.grows;
  sorted = c.sorted;
  bool = c.bool;
  fit = c.fit;
  low = c.low;
  means = λ a h. and_true (bit a cur t) ∙ ap (λ (x : Bool). bit a cur t && x) (sym (over a)) ∙ c.means a h;
}
