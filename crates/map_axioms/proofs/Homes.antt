-- The sorts of variables: each node with the number of a variable has the sort that the number has.
use Rattle.std.proofs.Common.{◌≡◌, ℕ, zero, suc, ◌+◌, ◌%◌, ◌<◌, ◌≤◌, Bool, true, false, ◌&&◌, List, [], ◌∷◌, ◌++◌, arith, sym, ◌∙◌, ap, refl, subst, append_assoc}
use Rattle.std.specs.Prelude.{Option, None, Some, if◌then◌else◌, slice_get, IsTrue, nat_eq, nat_lt}
use Rattle.std.proofs.lemmas.Bool.Decides.{nat_tests}
use Rattle.std.proofs.Math.Nat.{mul-add-mod_self_left, mod-eq_of_lt}
use Rattle.hy_val.specs.NodeSorts.{same_sort}
use Rattle.hy_val.specs.Values.{has_sort}
use Rattle.hy_val.specs.declared.sort.Scalar.{Scalar}
use Rattle.hy_val.specs.declared.sort.Sort.{Sort}
use Rattle.hy_val.specs.declared.sort.SortKind.TheVariants.{Scalar as ScalarSort, Map as MapSort}
use Rattle.hy_val.specs.declared.value.Value.{Value}
use Rattle.hy_val.proofs.ResultSorts.{same_scalar_self}
use Rattle.hy_term.specs.TermSorts.{named, or_else, sort_of_number, free_or_same, variable_agrees, agree_onto, are_plain}
use Rattle.hy_term.specs.Meaning.{node_fits, fits}
use Rattle.hy_term.specs.Variables.{node_below, below}
use Rattle.hy_term.specs.declared.node.TermNode.{TermNode}
use Rattle.hy_term.specs.declared.node.TermNode.TheVariants.{Lit, ZeroMap, Variable, Unary, Binary, If, Select, Store}
use Rattle.hy_term.proofs.Sorting.{and_left, and_right, and_both}
use Rattle.map_axioms.specs.Steps.{entry_number, elem_of, home, IsHome, AllHome}
use Rattle.map_axioms.proofs.Cases.{same_sort_is}

pub same_number : (n : ℕ) → nat_eq n n ≡ true
same_number n = grind (arith, nat_tests)

pub number_is : (n m : ℕ) → nat_eq n m ≡ true → n ≡ m
number_is n m h = grind (arith, nat_tests, h)

pub same_sort_self : (s : Sort) → same_sort s s ≡ true
same_sort_self (ScalarSort s) = same_scalar_self s
same_sort_self (MapSort i e) = ap (λ (b : Bool). b && same_scalar_e e) (same_scalar_self i) ∙ same_scalar_self e
  where
    same_scalar_e : Scalar → Bool
    same_scalar_e e = same_sort (ScalarSort e) (ScalarSort e)

or_else_none : (o p : Option Sort) → o ≡ None → or_else o p ≡ p
or_else_none None p h = refl
or_else_none (Some s) p h = cc

pub number_append : (n : ℕ) (xs ys : List TermNode) → sort_of_number n (xs ++ ys) ≡ or_else (sort_of_number n xs) (sort_of_number n ys)
number_append n [] ys = refl
number_append n (x ∷ xs) ys = ap (or_else (named n x)) (number_append n xs ys) ∙ grouped (named n x) (sort_of_number n xs) (sort_of_number n ys)
  where
    grouped : (o p q : Option Sort) → or_else o (or_else p q) ≡ or_else (or_else o p) q
    grouped None p q = refl
    grouped (Some s) p q = refl

-- the first sort stays
pub number_stays : (n : ℕ) (xs ys : List TermNode) (s : Sort) → sort_of_number n xs ≡ Some s → sort_of_number n (xs ++ ys) ≡ Some s
number_stays n xs ys s h = number_append n xs ys ∙ ap (λ (o : Option Sort). or_else o (sort_of_number n ys)) h

named_itself : (n : ℕ) (s : Sort) → named n (Variable n s) ≡ Some s
named_itself n s = ap (λ (b : Bool). if b then Some s else None) (same_number n)

first_or_same : (o : Option Sort) (s : Sort) (p : Option Sort) → free_or_same o s ≡ true → or_else o (or_else (Some s) p) ≡ Some s
first_or_same None s p h = refl
first_or_same (Some t) s p h = ap Some (same_sort_is t s h)

-- in terms whose variables agree, a variable's node has the sort of its number
number_by : (before nodes : List TermNode) (k n : ℕ) (s : Sort) → IsTrue (agree_onto before nodes) → slice_get nodes k ≡ Some (Variable n s) → sort_of_number n (before ++ nodes) ≡ Some s
number_by before [] k n s h is = cc
number_by before (x ∷ nodes) zero n s h is =
    let same : x ≡ Variable n s = cc in
    number_append n before (x ∷ nodes)
    ∙ ap (λ (y : TermNode). or_else (sort_of_number n before) (or_else (named n y) (sort_of_number n nodes))) same
    ∙ ap (λ (o : Option Sort). or_else (sort_of_number n before) (or_else o (sort_of_number n nodes))) (named_itself n s)
    ∙ first_or_same (sort_of_number n before) s (sort_of_number n nodes)
    (subst (λ (y : TermNode). variable_agrees before y ≡ true) same (and_left (variable_agrees before x) (agree_onto (before ++ x ∷ []) nodes) h))
number_by before (x ∷ nodes) (suc k) n s h is =
    ap (sort_of_number n) (sym (append_assoc before (x ∷ []) nodes))
    ∙ number_by (before ++ x ∷ []) nodes k n s (and_right (variable_agrees before x) (agree_onto (before ++ x ∷ []) nodes) h) is

pub number_at : (nodes : List TermNode) (k n : ℕ) (s : Sort) → IsTrue (agree_onto [] nodes) → slice_get nodes k ≡ Some (Variable n s) → sort_of_number n nodes ≡ Some s
number_at nodes k n s h is = number_by [] nodes k n s h is

-- numbers of the source are below its base
pub below_at : (base : ℕ) (nodes : List TermNode) (k n : ℕ) (s : Sort) → IsTrue (below base nodes) → slice_get nodes k ≡ Some (Variable n s) → n < base
below_at base [] k n s h is = cc
below_at base (x ∷ nodes) zero n s h is =
    let same : x ≡ Variable n s = cc in
    let test : nat_lt n base ≡ true = ap (node_below base) (sym same) ∙ and_left (node_below base x) (below base nodes) h in
    grind (arith, nat_tests, test)
below_at base (x ∷ nodes) (suc k) n s h is = below_at base nodes k n s (and_right (node_below base x) (below base nodes) h) is

-- ---- an assignment that fits gives each variable a value of its sort

fits_by : (a : ℕ → Value) (n m : ℕ) (t s : Sort) (rest : Option Sort) (b : Bool) → nat_eq m n ≡ b → has_sort (a m) t ≡ true → (rest ≡ Some s → has_sort (a n) s ≡ true)
    → or_else (if b then Some t else None) rest ≡ Some s → has_sort (a n) s ≡ true
fits_by a n m t s rest true same h ih is =
    let e : t ≡ s = cc in
    ap (λ (r : Sort). has_sort (a n) r) (sym e) ∙ ap (λ (k : ℕ). has_sort (a k) t) (sym (number_is m n same)) ∙ h
fits_by a n m t s rest false same h ih is = ih is

pub fits_number : (a : ℕ → Value) (nodes : List TermNode) (n : ℕ) (s : Sort) → IsTrue (fits a nodes) → sort_of_number n nodes ≡ Some s → has_sort (a n) s ≡ true
fits_number a [] n s h is = cc
fits_number a (Lit v ∷ nodes) n s h is = fits_number a nodes n s h is
fits_number a (ZeroMap i e ∷ nodes) n s h is = fits_number a nodes n s h is
fits_number a (Variable m t ∷ nodes) n s h is =
    fits_by a n m t s (sort_of_number n nodes) (nat_eq m n) refl (and_left (has_sort (a m) t) (fits a nodes) h)
    (λ e. fits_number a nodes n s (and_right (has_sort (a m) t) (fits a nodes) h) e) is
fits_number a (Unary op c ∷ nodes) n s h is = fits_number a nodes n s h is
fits_number a (Binary op l r ∷ nodes) n s h is = fits_number a nodes n s h is
fits_number a (If c y z ∷ nodes) n s h is = fits_number a nodes n s h is
fits_number a (Select m i ∷ nodes) n s h is = fits_number a nodes n s h is
fits_number a (Store m i v ∷ nodes) n s h is = fits_number a nodes n s h is

-- and one that gives each of the source's numbers a value of its sort fits the source
fits_if : (a : ℕ → Value) (before nodes : List TermNode) → IsTrue (agree_onto before nodes) → ((n : ℕ) (s : Sort) → sort_of_number n (before ++ nodes) ≡ Some s → has_sort (a n) s ≡ true)
    → IsTrue (fits a nodes)
fits_if a before [] h k = refl
fits_if a before (x ∷ nodes) h k =
    let also = and_right (variable_agrees before x) (agree_onto (before ++ x ∷ []) nodes) h in
    and_both (node_fits a x) (fits a nodes) (at_head x refl)
    (fits_if a (before ++ x ∷ []) nodes also (λ n s is. k n s (ap (sort_of_number n) (sym (append_assoc before (x ∷ []) nodes)) ∙ is)))
  where
    at_head : (y : TermNode) → x ≡ y → node_fits a y ≡ true
    at_head (Lit v) e = refl
    at_head (ZeroMap i t) e = refl
    at_head (Variable n s) e =
        k n s (number_by before (x ∷ nodes) 0 n s h (ap Some e))
    at_head (Unary op c) e = refl
    at_head (Binary op l r) e = refl
    at_head (If c y z) e = refl
    at_head (Select m i) e = refl
    at_head (Store m i v) e = refl

pub fits_numbers : (a : ℕ → Value) (nodes : List TermNode) → IsTrue (agree_onto [] nodes) → ((n : ℕ) (s : Sort) → sort_of_number n nodes ≡ Some s → has_sort (a n) s ≡ true) → IsTrue (fits a nodes)
fits_numbers a nodes h k = fits_if a [] nodes h k

-- ---- the variables of the reduced terms

pub home_push : (base : ℕ) (nodes out : List TermNode) (node : TermNode) → AllHome base nodes out → IsHome base nodes node → AllHome base nodes (out ++ node ∷ [])
home_push base nodes [] node h k = (k, tt)
home_push base nodes (x ∷ out) node h k = (h.0, home_push base nodes out node h.1 k)

home_by : (P : Option Sort) (n m : ℕ) (t s : Sort) (rest : Option Sort) (b : Bool) (look : ℕ → Option Sort) → nat_eq m n ≡ b → look m ≡ Some t → (rest ≡ Some s → look n ≡ Some s)
    → or_else (if b then Some t else None) rest ≡ Some s → look n ≡ Some s
home_by P n m t s rest true look same h ih is =
    let e : t ≡ s = cc in
    ap look (sym (number_is m n same)) ∙ h ∙ ap Some e
home_by P n m t s rest false look same h ih is = ih is

pub home_number : (base : ℕ) (nodes out : List TermNode) (n : ℕ) (s : Sort) → AllHome base nodes out → sort_of_number n out ≡ Some s → home base nodes n ≡ Some s
home_number base nodes [] n s h is = cc
home_number base nodes (Lit v ∷ out) n s h is = home_number base nodes out n s h.1 is
home_number base nodes (ZeroMap i e ∷ out) n s h is = home_number base nodes out n s h.1 is
home_number base nodes (Variable m (ScalarSort t) ∷ out) n s h is =
    home_by None n m (ScalarSort t) s (sort_of_number n out) (nat_eq m n) (home base nodes) refl h.0 (λ e. home_number base nodes out n s h.1 e) is
home_number base nodes (Variable m (MapSort i e) ∷ out) n s h is = absurd h.0
home_number base nodes (Unary op c ∷ out) n s h is = home_number base nodes out n s h.1 is
home_number base nodes (Binary op l r ∷ out) n s h is = home_number base nodes out n s h.1 is
home_number base nodes (If c y z ∷ out) n s h is = home_number base nodes out n s h.1 is
home_number base nodes (Select m i ∷ out) n s h is = home_number base nodes out n s h.1 is
home_number base nodes (Store m i v ∷ out) n s h is = home_number base nodes out n s h.1 is

pub home_plain : (base : ℕ) (nodes out : List TermNode) → AllHome base nodes out → IsTrue (are_plain out)
home_plain base nodes [] h = refl
home_plain base nodes (Lit v ∷ out) h = home_plain base nodes out h.1
home_plain base nodes (ZeroMap i e ∷ out) h = absurd h.0
home_plain base nodes (Variable m (ScalarSort t) ∷ out) h = home_plain base nodes out h.1
home_plain base nodes (Variable m (MapSort i e) ∷ out) h = absurd h.0
home_plain base nodes (Unary op c ∷ out) h = home_plain base nodes out h.1
home_plain base nodes (Binary op l r ∷ out) h = home_plain base nodes out h.1
home_plain base nodes (If c y z ∷ out) h = home_plain base nodes out h.1
home_plain base nodes (Select m i ∷ out) h = absurd h.0
home_plain base nodes (Store m i v ∷ out) h = absurd h.0

-- a variable of the sort that the source gives it may be added
pub home_agrees : (base : ℕ) (nodes out : List TermNode) (n : ℕ) (s : Sort) → AllHome base nodes out → home base nodes n ≡ Some s → variable_agrees out (Variable n s) ≡ true
home_agrees base nodes out n s h is = free (sort_of_number n out) (λ t e. home_number base nodes out n t h e)
  where
    free : (o : Option Sort) → ((t : Sort) → o ≡ Some t → home base nodes n ≡ Some t) → free_or_same o s ≡ true
    free None k = refl
    free (Some t) k = let other = k t refl in let same : t ≡ s = cc in ap (λ (r : Sort). same_sort r s) same ∙ same_sort_self s

-- where the source's number has the sort
home_lower_by : (b : Bool) (o p : Option Sort) → b ≡ true → (if b then o else p) ≡ o
home_lower_by true o p h = refl
home_lower_by false o p h = cc

home_upper_by : (b : Bool) (o p : Option Sort) → b ≡ false → (if b then o else p) ≡ p
home_upper_by true o p h = cc
home_upper_by false o p h = refl

pub home_source : (base : ℕ) (nodes : List TermNode) (n : ℕ) → n < base → home base nodes n ≡ sort_of_number n nodes
home_source base nodes n l = home_lower_by (nat_lt n base) (sort_of_number n nodes) (elem_of (sort_of_number (n % base) nodes)) (grind (arith, nat_tests, l))

pub entry_above : (base i m : ℕ) → m < base → base ≤ entry_number base i m
entry_above base i m l = grind (arith, l)

pub entry_map : (base i m : ℕ) → m < base → entry_number base i m % base ≡ m
entry_map base i m l = mul-add-mod_self_left base (i + 1) m ∙ mod-eq_of_lt l

pub home_entry : (base : ℕ) (nodes : List TermNode) (i m : ℕ) (index elem : Scalar) → m < base → sort_of_number m nodes ≡ Some (MapSort index elem)
    → home base nodes (entry_number base i m) ≡ Some (ScalarSort elem)
home_entry base nodes i m index elem l is =
    let above = entry_above base i m l in
    home_upper_by (nat_lt (entry_number base i m) base) (sort_of_number (entry_number base i m) nodes) (elem_of (sort_of_number (entry_number base i m % base) nodes)) (grind (arith, nat_tests, above))
    ∙ ap (λ (k : ℕ). elem_of (sort_of_number k nodes)) (entry_map base i m l) ∙ ap elem_of is
