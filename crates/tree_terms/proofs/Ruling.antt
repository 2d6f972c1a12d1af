-- Bools over others.
use Rattle.std.proofs.Common.{◌≡◌, ℕ, zero, suc, ◌+◌, ◌<◌, ◌≤◌, Bool, true, false, not, ◌&&◌, ◌||◌, List, [], ◌∷◌, ◌++◌, length, take, refl, sym, ap, ◌∙◌, subst, arith}
use Rattle.std.proofs.Common.{get_or}
use Rattle.std.proofs.lemmas.Option.{slice_get-get_or}
use Rattle.std.specs.Prelude.{if◌then◌else◌, Option, Some, is_some, slice_get, IsSome, IsTrue}
use Rattle.std.specs.Option.{option_and_then}
use Rattle.std.proofs.lemmas.Bool.{and_from}
use Rattle.hy_val.specs.Values.{is_on, pick}
use Rattle.hy_val.specs.NodeSorts.{as_scalar, if_sort}
use Rattle.hy_val.specs.declared.sort.ScalarKind.TheVariants.{Bool as BoolSort}
use Rattle.hy_val.specs.declared.sort.SortKind.TheVariants.{Scalar as ScalarSort}
use Rattle.hy_val.specs.declared.sort.Sort.{Sort}
use Rattle.hy_val.specs.declared.value.Value.{Value}
use Rattle.hy_term.specs.TermSorts.{sorts, sort_behind, sort_of_node, fits_behind, variable_agrees}
use Rattle.hy_term.specs.Meaning.{value, Grows}
use Rattle.hy_term.specs.declared.node.TermNode.{TermNode}
use Rattle.hy_term.specs.declared.node.TermNode.TheVariants.{If}
use Rattle.tree_terms.specs.Copies.{IsPlaced}
use Rattle.tree_terms.proofs.Growth.{fits_before, grows_not, grows_on, sort_stays, sort_within, sorts_are, value_stays}
use Rattle.tree_terms.specs.declared.rules.Rule.{Rule}
use Rattle.tree_terms.specs.Rules.{IsBool, bit, rule_holds, rules_hold, RuleFits, RulesFit, IsBit, IsFalse}

pub bool_low : (into : List TermNode) (t : ℕ) → IsSome (sorts into) → IsBool into t → t < length into
bool_low into t ok is = sort_within into t (ScalarSort BoolSort) is

-- bools stay, and so does what they say
pub bool_stays : (old new : List TermNode) (t : ℕ) → IsSome (sorts old) → IsSome (sorts new) → Grows old new → IsBool old t → IsBool new t
bool_stays old new t ok new_ok g is = sort_stays old new t ok new_ok g (bool_low old t ok is) ∙ is

pub bit_stays : (a : ℕ → Value) (old new : List TermNode) (t : ℕ) → IsSome (sorts old) → Grows old new → IsBool old t → bit a new t ≡ bit a old t
bit_stays a old new t ok g is = ap is_on (value_stays a old new t g (bool_low old t ok is))

if_behind : (old : List TermNode) (c y n : ℕ) → IsSome (sorts old) → IsBool old c → IsBool old y → IsBool old n → sort_behind old (If c y n) ≡ Some (ScalarSort BoolSort)
if_behind old c y n ok hc hy hn =
    let o = sorts_are (sorts old) ok in
    let at_c : slice_get o.0 c ≡ Some (ScalarSort BoolSort) = sym (ap (λ (x : Option (List Sort)). option_and_then (λ ss. slice_get ss c) x) o.1) ∙ hc in
    let at_y : slice_get o.0 y ≡ Some (ScalarSort BoolSort) = sym (ap (λ (x : Option (List Sort)). option_and_then (λ ss. slice_get ss y) x) o.1) ∙ hy in
    let at_n : slice_get o.0 n ≡ Some (ScalarSort BoolSort) = sym (ap (λ (x : Option (List Sort)). option_and_then (λ ss. slice_get ss n) x) o.1) ∙ hn in
    ap (λ (x : Option (List Sort)). option_and_then (λ ss. sort_of_node ss (If c y n)) x) o.1
    ∙ (ap (λ (x : Option Sort). if_sort (as_scalar x) (slice_get o.0 y) (slice_get o.0 n)) at_c
    ∙ (ap (λ (x : Option Sort). if_sort (Some BoolSort) x (slice_get o.0 n)) at_y ∙ ap (λ (x : Option Sort). if_sort (Some BoolSort) (Some (ScalarSort BoolSort)) x) at_n))

pub if_fits : (old : List TermNode) (c y n : ℕ) → IsSome (sorts old) → IsBool old c → IsBool old y → IsBool old n → IsTrue (fits_behind old (If c y n))
if_fits old c y n ok hc hy hn =
    and_from (is_some (sort_behind old (If c y n))) (variable_agrees old (If c y n)) (ap is_some (if_behind old c y n ok hc hy hn)) refl

pick_bit : (v w x : Value) → is_on (pick v w x) ≡ (if is_on v then is_on w else is_on x)
pick_bit v w x = by_test (is_on v)
  where
    by_test : (b : Bool) → is_on (if b then w else x) ≡ (if b then is_on w else is_on x)
    by_test true = refl
    by_test false = refl

pub chosen : (old new : List TermNode) (c y n t : ℕ) → IsSome (sorts old) → IsBool old c → IsBool old y → IsBool old n → IsPlaced old new (If c y n) t
    → IsBit old new (λ a. if bit a old c then bit a old y else bit a old n) t
chosen old new c y n t ok hc hy hn p = record {
  grows = p.grows;
  sorted = p.sorted;
  bool = p.sort ∙ if_behind old c y n ok hc hy hn;
  fit = λ a h. p.fits a h refl;
  low = λ k h. p.low k h refl;
  means = λ a h. ap is_on (p.means a h) ∙ (pick_bit (value a new c) (value a new y) (value a new n)
      ∙ (ap (λ (b : Bool). if b then bit a new y else bit a new n) (bit_stays a old new c ok p.grows hc)
      ∙ (ap (λ (b : Bool). if bit a old c then b else bit a new n) (bit_stays a old new y ok p.grows hy)
      ∙ ap (λ (b : Bool). if bit a old c then bit a old y else b) (bit_stays a old new n ok p.grows hn))));
}

pub false_stays : (old new : List TermNode) (t : ℕ) → IsSome (sorts old) → IsSome (sorts new) → Grows old new → IsFalse old t → IsFalse new t
false_stays old new t ok new_ok g h = record { bool = bool_stays old new t ok new_ok g h.bool; off = λ a fit. bit_stays a old new t ok g h.bool ∙ h.off a (fits_before a old new g fit) }

-- ---- a rule

negated_by : (w o all : Bool) → (if w then (if o then false else all) else all) ≡ (all && (if w then not o else true))
negated_by true true true = refl
negated_by true true false = refl
negated_by true false true = refl
negated_by true false false = refl
negated_by false true true = refl
negated_by false true false = refl
negated_by false false true = refl
negated_by false false false = refl

plain_by : (w o p all : Bool) → (if w then (if o then all else (if p then all else false)) else all) ≡ (all && (if w then (o || p) else true))
plain_by true true true true = refl
plain_by true true true false = refl
plain_by true true false true = refl
plain_by true true false false = refl
plain_by true false true true = refl
plain_by true false true false = refl
plain_by true false false true = refl
plain_by true false false false = refl
plain_by false o p true = refl
plain_by false o p false = refl

-- a rule that is negated
pub rule_off : (old mid new : List TermNode) (never all k t : ℕ) (r : Rule) → IsSome (sorts old) → IsFalse old never → IsBool old all → RuleFits old r → r.negated ≡ true
    → IsBit old mid (λ a. if bit a old r.one then bit a old never else bit a old all) k
    → IsBit mid new (λ a. if bit a mid r.when then bit a mid k else bit a mid all) t
    → IsBit old new (λ a. bit a old all && rule_holds (bit a old) r) t
rule_off old mid new never all k t r ok off hall fit neg one last = record {
  grows = grows_on old mid new one.grows last.grows;
  sorted = last.sorted;
  bool = last.bool;
  fit = λ a h. last.fit a (one.fit a h);
  low = λ j h. last.low j (one.low j h);
  means = λ a h.
      let mid_fit = fits_before a mid new last.grows h in
      let old_fit = fits_before a old mid one.grows mid_fit in
      last.means a h
      ∙ (ap (λ (b : Bool). if b then bit a mid k else bit a mid all) (bit_stays a old mid r.when ok one.grows fit.when)
      ∙ (ap (λ (b : Bool). if bit a old r.when then b else bit a mid all) (one.means a mid_fit ∙ ap (λ (b : Bool). if bit a old r.one then b else bit a old all) (off.off a old_fit))
      ∙ (ap (λ (b : Bool). if bit a old r.when then (if bit a old r.one then false else bit a old all) else b) (bit_stays a old mid all ok one.grows hall)
      ∙ (negated_by (bit a old r.when) (bit a old r.one) (bit a old all)
      ∙ ap (λ (b : Bool). bit a old all && (if bit a old r.when then (if b then not (bit a old r.one) else (bit a old r.one || bit a old r.other)) else true)) (sym neg)))));
}

-- another
pub rule_on : (old low mid new : List TermNode) (never all o k t : ℕ) (r : Rule) → IsSome (sorts old) → IsFalse old never → IsBool old all → RuleFits old r → r.negated ≡ false
    → IsBit old low (λ a. if bit a old r.other then bit a old all else bit a old never) o
    → IsBit low mid (λ a. if bit a low r.one then bit a low all else bit a low o) k
    → IsBit mid new (λ a. if bit a mid r.when then bit a mid k else bit a mid all) t
    → IsBit old new (λ a. bit a old all && rule_holds (bit a old) r) t
rule_on old low mid new never all o k t r ok off hall fit neg other one last = record {
  grows = grows_on old mid new to_mid last.grows;
  sorted = last.sorted;
  bool = last.bool;
  fit = λ a h. last.fit a (one.fit a (other.fit a h));
  low = λ j h. last.low j (one.low j (other.low j h));
  means = λ a h.
      let mid_fit = fits_before a mid new last.grows h in
      let low_fit = fits_before a low mid one.grows mid_fit in
      let old_fit = fits_before a old low other.grows low_fit in
      let inner : bit a low o ≡ (if bit a old r.other then bit a old all else false) = other.means a low_fit ∙ ap (λ (b : Bool). if bit a old r.other then bit a old all else b) (off.off a old_fit) in
      let second : bit a mid k ≡ (if bit a old r.one then bit a old all else (if bit a old r.other then bit a old all else false)) =
      one.means a mid_fit
      ∙ (ap (λ (b : Bool). if b then bit a low all else bit a low o) (bit_stays a old low r.one ok other.grows fit.one)
      ∙ (ap (λ (b : Bool). if bit a old r.one then b else bit a low o) (bit_stays a old low all ok other.grows hall)
      ∙ ap (λ (b : Bool). if bit a old r.one then bit a old all else b) inner)) in
      last.means a h
      ∙ (ap (λ (b : Bool). if b then bit a mid k else bit a mid all) (bit_stays a old mid r.when ok to_mid fit.when)
      ∙ (ap (λ (b : Bool). if bit a old r.when then b else bit a mid all) second
      ∙ (ap (λ (b : Bool). if bit a old r.when then (if bit a old r.one then bit a old all else (if bit a old r.other then bit a old all else false)) else b) (bit_stays a old mid all ok to_mid hall)
      ∙ (plain_by (bit a old r.when) (bit a old r.one) (bit a old r.other) (bit a old all)
      ∙ ap (λ (b : Bool). bit a old all && (if bit a old r.when then (if b then not (bit a old r.one) else (bit a old r.one || bit a old r.other)) else true)) (sym neg)))));
}
  where
    to_mid : Grows old mid
    to_mid = grows_on old low mid other.grows one.grows

-- ---- rules one by one

holds_snoc : (v : ℕ → Bool) (rs : List Rule) (r : Rule) → rules_hold v (rs ++ r ∷ []) ≡ (rules_hold v rs && rule_holds v r)
holds_snoc v [] r = and_true (rule_holds v r)
  where
    and_true : (b : Bool) → (b && true) ≡ b
    and_true true = refl
    and_true false = refl
holds_snoc v (x ∷ rs) r = by_bool (rule_holds v x) (holds_snoc v rs r)
  where
    by_bool : (b : Bool) → rules_hold v (rs ++ r ∷ []) ≡ (rules_hold v rs && rule_holds v r) → (b && rules_hold v (rs ++ r ∷ [])) ≡ ((b && rules_hold v rs) && rule_holds v r)
    by_bool true e = e
    by_bool false e = refl

take_snoc : (rs : List Rule) (k : ℕ) (r : Rule) → slice_get rs k ≡ Some r → take (suc k) rs ≡ take k rs ++ r ∷ []
take_snoc [] k r h = cc
take_snoc (x ∷ rs) zero r h = let e : x ≡ r = cc in ap (λ (y : Rule). y ∷ []) e
take_snoc (x ∷ rs) (suc k) r h = ap (λ (ys : List Rule). x ∷ ys) (take_snoc rs k r h)

take_all : (rs : List Rule) (k : ℕ) → length rs ≤ k → take k rs ≡ rs
take_all [] zero l = refl
take_all [] (suc k) l = refl
take_all (x ∷ rs) zero l = absurd (omega (arith, l))
take_all (x ∷ rs) (suc k) l = ap (λ (ys : List Rule). x ∷ ys) (take_all rs k (omega (arith, l)))

pub ruled_none : (old : List TermNode) (start : ℕ) (rules : List Rule) → IsSome (sorts old) → IsBool old start → IsBit old old (λ a. bit a old start && rules_hold (bit a old) (take 0 rules)) start
ruled_none old start rules ok is = record { grows = grows_not old; sorted = ok; bool = is; fit = λ a h. h; low = λ j h. h; means = λ a h. sym (no_rules a rules ∙ and_true (bit a old start)) }
  where
    and_true : (b : Bool) → (b && true) ≡ b
    and_true true = refl
    and_true false = refl

    no_rules : (a : ℕ → Value) (rs : List Rule) → (bit a old start && rules_hold (bit a old) (take 0 rs)) ≡ (bit a old start && true)
    no_rules a [] = refl
    no_rules a (r ∷ rs) = refl

pub rule_stays : (a : ℕ → Value) (old new : List TermNode) (r : Rule) → IsSome (sorts old) → Grows old new → RuleFits old r → rule_holds (bit a new) r ≡ rule_holds (bit a old) r
rule_stays a old new r ok g fit =
    ap (λ (b : Bool). if b then (if r.negated then not (bit a new r.one) else (bit a new r.one || bit a new r.other)) else true) (bit_stays a old new r.when ok g fit.when)
    ∙ (ap (λ (b : Bool). if bit a old r.when then (if r.negated then not b else (b || bit a new r.other)) else true) (bit_stays a old new r.one ok g fit.one)
    ∙ ap (λ (b : Bool). if bit a old r.when then (if r.negated then not (bit a old r.one) else (bit a old r.one || b)) else true) (bit_stays a old new r.other ok g fit.other))

pub ruled_next : (old mid new : List TermNode) (start all t k : ℕ) (rules : List Rule) (r : Rule) → IsSome (sorts old) → RulesFit old rules → slice_get rules k ≡ Some r
    → IsBit old mid (λ a. bit a old start && rules_hold (bit a old) (take k rules)) all
    → IsBit mid new (λ a. bit a mid all && rule_holds (bit a mid) r) t
    → IsBit old new (λ a. bit a old start && rules_hold (bit a old) (take (k + 1) rules)) t
ruled_next old mid new start all t k rules r ok fit is one two = record {
  grows = grows_on old mid new one.grows two.grows;
  sorted = two.sorted;
  bool = two.bool;
  fit = λ a h. two.fit a (one.fit a h);
  low = λ j h. two.low j (one.low j h);
  means = λ a h.
      two.means a h
      ∙ (ap (λ (b : Bool). b && rule_holds (bit a mid) r) (one.means a (fits_before a mid new two.grows h))
      ∙ (ap (λ (b : Bool). (bit a old start && rules_hold (bit a old) (take k rules)) && b) (rule_stays a old mid r ok one.grows (fit k r is))
      ∙ (grouped (bit a old start) (rules_hold (bit a old) (take k rules)) (rule_holds (bit a old) r)
      ∙ ap (λ (b : Bool). bit a old start && b) (sym (ap (rules_hold (bit a old)) (next ∙ take_snoc rules k r is) ∙ holds_snoc (bit a old) (take k rules) r)))));
}
  where
    next : take (k + 1) rules ≡ take (suc k) rules
    next = let e : k + 1 ≡ suc k = omega arith in ap (λ (n : ℕ). take n rules) e

    grouped : (x y z : Bool) → ((x && y) && z) ≡ (x && (y && z))
    grouped true y z = refl
    grouped false y z = refl

pub ruled_all : (old new : List TermNode) (start t k : ℕ) (rules : List Rule) → length rules ≤ k → IsBit old new (λ a. bit a old start && rules_hold (bit a old) (take k rules)) t
    → IsBit old new (λ a. bit a old start && rules_hold (bit a old) rules) t
ruled_all old new start t k rules l h = subst (λ (rs : List Rule). IsBit old new (λ a. bit a old start && rules_hold (bit a old) rs) t) (take_all rules k l) h

pub fits_later : (old new : List TermNode) (r : Rule) → IsSome (sorts old) → IsSome (sorts new) → Grows old new → RuleFits old r → RuleFits new r
fits_later old new r ok new_ok g f = record { when = bool_stays old new r.when ok new_ok g f.when; one = bool_stays old new r.one ok new_ok g f.one; other = bool_stays old new r.other ok new_ok g f.other }

pub rule_at : (rules : List Rule) (k : ℕ) (r : Rule) → k < length rules → r ≡ get_or rules k r → slice_get rules k ≡ Some r
rule_at rules k r low is = slice_get-get_or rules k r low ∙ ap (λ (x : Rule). Some x) (sym is)
