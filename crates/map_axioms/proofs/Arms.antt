-- What each node of a row becomes, as the code adds it.
use Rattle.std.proofs.Common.{◌≡◌, ℕ, List, [], ◌∷◌, ◌++◌, sym, ◌∙◌, subst}
use Rattle.std.specs.Prelude.{None, Some, slice_get, slice_index, IsTrue, is_some}
use Rattle.hy_val.specs.Sorts.{is_scalar, zero_of_scalar}
use Rattle.hy_val.specs.Values.{binary_value, select_value}
use Rattle.hy_val.specs.declared.atom.Atom.{Atom}
use Rattle.hy_val.specs.declared.sort.Scalar.{Scalar}
use Rattle.hy_val.specs.declared.sort.ScalarKind.TheVariants.{Bool as BoolSort}
use Rattle.hy_val.specs.declared.sort.Sort.{Sort}
use Rattle.hy_val.specs.declared.sort.SortKind.TheVariants.{Scalar as ScalarSort, Map as MapSort}
use Rattle.hy_val.specs.declared.operator.BvOp.TheVariants.{Eq}
use Rattle.hy_val.specs.declared.value.Value.{Value}
use Rattle.hy_term.specs.Formula.{Formula}
use Rattle.hy_term.specs.TermSorts.{sort_at, agree_onto, is_bool, is_formula, fits_behind, sort_behind, variable_agrees}
use Rattle.hy_term.specs.Meaning.{value}
use Rattle.hy_term.specs.Variables.{below}
use Rattle.hy_term.specs.declared.node.TermNode.{TermNode}
use Rattle.hy_term.specs.declared.node.TermNode.TheVariants.{Lit, ZeroMap, Variable, Binary, If, Store}
use Rattle.hy_term.proofs.Sorting.{and_right, and_both}
use Rattle.map_axioms.specs.declared.entry.Entry.{Entry}
use Rattle.map_axioms.specs.Shared.{Shared}
use Rattle.map_axioms.specs.Steps.{entry_number, asked, State, Placed, IsAsked, row_at, MapsKnown, Read, IsRow}
use Rattle.map_axioms.proofs.Standing.{some_is, Addable, addable_fits, later_then}
use Rattle.map_axioms.proofs.Sharing.{placed}
use Rattle.map_axioms.proofs.Rows.{row_asked, row_variable_sort, row_zero, row_if, row_same, row_store, row_entered, row_from_variable, no_scalar, entry_addable, entry_new}
use Rattle.map_axioms.proofs.Homes.{home_agrees}

pub formula_agrees : (f : Formula) → IsTrue (is_formula f) → IsTrue (agree_onto [] f.nodes)
formula_agrees f h = and_right (is_bool (sort_at f.nodes f.root)) (agree_onto [] f.nodes) h

pub addable_named : (base : ℕ) (nodes out : List TermNode) (es : List Entry) (x y : TermNode) (s : Scalar) (f : (ℕ → Value) → Value) → x ≡ y → Addable base nodes out es y s f → Addable base nodes out es x s f
addable_named base nodes out es x y s f same h = subst (λ (n : TermNode). Addable base nodes out es n s f) (sym same) h

module _ (base : ℕ) (nodes out : List TermNode) (es : List Entry) (reds : List ℕ) (rows : List ((ℕ × ℕ) × ℕ)) (top i : ℕ)
    (agree : IsTrue (agree_onto [] nodes)) (under : IsTrue (below base nodes)) (r : IsRow base nodes out es reds rows top i) (maps : (x : TermNode) → slice_get nodes top ≡ Some x → MapsKnown rows i x) where
  pub added_entered : (x : TermNode) (out' : List TermNode) (t : ℕ) → Addable base nodes out es x r.select.elem (λ a. select_value (value a nodes top) (value a nodes i)) → Shared out x out' t
      → Read base nodes out es out' es top i t
  added_entered x out' t h shared =
      row_entered base nodes out es reds rows top i agree under r maps out' es t
      (placed base nodes out es out' x r.select.elem t (λ a. select_value (value a nodes top) (value a nodes i)) r.state h shared)

  pub arm_zero : (x y : Scalar) (v : Atom) (out' : List TermNode) (t : ℕ) → slice_get nodes top ≡ Some (ZeroMap x y) → v ≡ zero_of_scalar y → Shared out (Lit v) out' t
      → Read base nodes out es out' es top i t
  arm_zero x y v out' t is same shared =
      added_entered (Lit (zero_of_scalar y)) out' t (row_zero base nodes out es reds rows top i agree under r maps x y is) (subst (λ (w : Atom). Shared out (Lit w) out' t) same shared)

  pub arm_asked : (n x : ℕ) (sort : Sort) (index elem : Scalar) → slice_get nodes top ≡ Some (Variable n sort) → sort ≡ MapSort index elem → x ≡ slice_index reds i → IsAsked base nodes out es n i x elem
  arm_asked n x sort index elem is e same =
      let q : MapSort index elem ≡ MapSort r.select.index r.select.elem = sym e ∙ (row_variable_sort base nodes out es reds rows top i agree under r maps n sort is).0 in
      let same_elem : r.select.elem ≡ elem = cc in
      subst (λ (k : ℕ). IsAsked base nodes out es n i k elem) (sym same)
      (subst (λ (s : Scalar). IsAsked base nodes out es n i (slice_index reds i) s) same_elem (row_asked base nodes out es reds rows top i agree under r maps n sort is))

  pub arm_variable : (n : ℕ) (sort : Sort) (index elem : Scalar) (out' : List TermNode) (es' : List Entry) (t : ℕ) → slice_get nodes top ≡ Some (Variable n sort) → sort ≡ MapSort index elem
      → Placed base nodes out es out' es' elem t (λ a. select_value (a n) (value a nodes i)) → Read base nodes out es out' es' top i t
  arm_variable n sort index elem out' es' t is e p =
      let q : MapSort index elem ≡ MapSort r.select.index r.select.elem = sym e ∙ (row_variable_sort base nodes out es reds rows top i agree under r maps n sort is).0 in
      let same_elem : elem ≡ r.select.elem = cc in
      row_from_variable base nodes out es reds rows top i agree under r maps n sort out' es' t is
      (subst (λ (s : Scalar). Placed base nodes out es out' es' s t (λ a. select_value (a n) (value a nodes i))) same_elem p)

  pub arm_no_scalar : (n : ℕ) (sort : Sort) (s : Scalar) → slice_get nodes top ≡ Some (Variable n sort) → sort ≡ ScalarSort s → ⊥
  arm_no_scalar n sort s is e = no_scalar ⊥ s r.select.index r.select.elem (sym e ∙ (row_variable_sort base nodes out es reds rows top i agree under r maps n sort is).0)

  arm_if_addable : (c x y r1 r2 r3 : ℕ) → slice_get nodes top ≡ Some (If c x y) → r1 ≡ slice_index reds c → r2 ≡ row_at rows x i → r3 ≡ row_at rows y i
      → Addable base nodes out es (If r1 r2 r3) r.select.elem (λ a. select_value (value a nodes top) (value a nodes i))
  arm_if_addable c x y r1 r2 r3 is p q o =
      addable_named base nodes out es (If r1 r2 r3) (If (slice_index reds c) (row_at rows x i) (row_at rows y i)) r.select.elem (λ a. select_value (value a nodes top) (value a nodes i)) (cc)
      (row_if base nodes out es reds rows top i agree under r maps c x y is)

  pub arm_if_fits : (c x y r1 r2 r3 : ℕ) → slice_get nodes top ≡ Some (If c x y) → r1 ≡ slice_index reds c → r2 ≡ row_at rows x i → r3 ≡ row_at rows y i → IsTrue (fits_behind out (If r1 r2 r3))
  arm_if_fits c x y r1 r2 r3 is p q o =
      addable_fits base nodes out es (If r1 r2 r3) r.select.elem (λ a. select_value (value a nodes top) (value a nodes i)) (arm_if_addable c x y r1 r2 r3 is p q o)

  pub arm_if : (c x y r1 r2 r3 : ℕ) (out' : List TermNode) (t : ℕ) → slice_get nodes top ≡ Some (If c x y) → r1 ≡ slice_index reds c → r2 ≡ row_at rows x i → r3 ≡ row_at rows y i
      → Shared out (If r1 r2 r3) out' t → Read base nodes out es out' es top i t
  arm_if c x y r1 r2 r3 out' t is p q o shared = added_entered (If r1 r2 r3) out' t (arm_if_addable c x y r1 r2 r3 is p q o) shared

  arm_same : (x j v r1 r2 : ℕ) → slice_get nodes top ≡ Some (Store x j v) → r1 ≡ slice_index reds j → r2 ≡ slice_index reds i
      → Addable base nodes out es (Binary Eq r1 r2) BoolSort (λ a. binary_value Eq (value a nodes j) (value a nodes i))
  arm_same x j v r1 r2 is p q =
      addable_named base nodes out es (Binary Eq r1 r2) (Binary Eq (slice_index reds j) (slice_index reds i)) BoolSort (λ a. binary_value Eq (value a nodes j) (value a nodes i)) (cc)
      (row_same base nodes out es reds rows top i agree under r maps x j v is)

  pub arm_same_fits : (x j v r1 r2 : ℕ) → slice_get nodes top ≡ Some (Store x j v) → r1 ≡ slice_index reds j → r2 ≡ slice_index reds i → IsTrue (fits_behind out (Binary Eq r1 r2))
  arm_same_fits x j v r1 r2 is p q = addable_fits base nodes out es (Binary Eq r1 r2) BoolSort (λ a. binary_value Eq (value a nodes j) (value a nodes i)) (arm_same x j v r1 r2 is p q)

  module _ (x j v r1 r2 : ℕ) (is : slice_get nodes top ≡ Some (Store x j v)) (p : r1 ≡ slice_index reds j) (q : r2 ≡ slice_index reds i) (out1 : List TermNode) (t1 : ℕ)
      (shared : Shared out (Binary Eq r1 r2) out1 t1) where
    arm_first : Placed base nodes out es out1 es BoolSort t1 (λ a. binary_value Eq (value a nodes j) (value a nodes i))
    arm_first = placed base nodes out es out1 (Binary Eq r1 r2) BoolSort t1 (λ a. binary_value Eq (value a nodes j) (value a nodes i)) r.state (arm_same x j v r1 r2 is p q) shared

    arm_store_addable : (r3 r4 : ℕ) → r3 ≡ slice_index reds v → r4 ≡ row_at rows x i → Addable base nodes out1 es (If t1 r3 r4) r.select.elem (λ a. select_value (value a nodes top) (value a nodes i))
    arm_store_addable r3 r4 o k =
        addable_named base nodes out1 es (If t1 r3 r4) (If t1 (slice_index reds v) (row_at rows x i)) r.select.elem (λ a. select_value (value a nodes top) (value a nodes i)) (cc)
        (row_store base nodes out es reds rows top i agree under r maps x j v t1 out1 is arm_first)

    pub arm_store_fits : (r3 r4 : ℕ) → r3 ≡ slice_index reds v → r4 ≡ row_at rows x i → IsTrue (fits_behind out1 (If t1 r3 r4))
    arm_store_fits r3 r4 o k = addable_fits base nodes out1 es (If t1 r3 r4) r.select.elem (λ a. select_value (value a nodes top) (value a nodes i)) (arm_store_addable r3 r4 o k)

    pub arm_store : (r3 r4 : ℕ) (out2 : List TermNode) (t2 : ℕ) → r3 ≡ slice_index reds v → r4 ≡ row_at rows x i → Shared out1 (If t1 r3 r4) out2 t2
        → Read base nodes out es out2 es top i t2
    arm_store r3 r4 out2 t2 o k shared2 =
        let first = arm_first in
        let last = placed base nodes out1 es out2 (If t1 r3 r4) r.select.elem t2 (λ a. select_value (value a nodes top) (value a nodes i)) first.state (arm_store_addable r3 r4 o k) shared2 in
        row_entered base nodes out es reds rows top i agree under r maps out2 es t2 (record {
          state = last.state;
          later = later_then out es out1 es out2 es first.later last.later;
          stands = last.stands;
        })

-- ---- the variable for an entry, as the code adds it

pub entry_fits : (base : ℕ) (nodes out : List TermNode) (es : List Entry) (m i index n : ℕ) (elem : Scalar) (sort : Sort) → State base nodes out es → IsAsked base nodes out es m i index elem → IsTrue (is_scalar elem)
    → n ≡ entry_number base i m → sort ≡ ScalarSort elem → IsTrue (fits_behind out (Variable n sort))
entry_fits base nodes out es m i index n elem sort st ask own is_n is_s =
    let a = entry_addable base nodes out es m i index elem st ask own in
    let v = Variable (entry_number base i m) (ScalarSort elem) in
    let same : Variable n sort ≡ v = cc in
    subst (λ (x : TermNode). IsTrue (fits_behind out x)) (sym same)
    (and_both (is_some (sort_behind out v)) (variable_agrees out v) (some_is (sort_behind out v) (ScalarSort elem) a.0)
    (home_agrees base nodes out (entry_number base i m) (ScalarSort elem) st.at_home a.1))

pub entry_placed : (base : ℕ) (nodes out : List TermNode) (es : List Entry) (m i index n t : ℕ) (elem : Scalar) (sort : Sort) (out' : List TermNode) (es' : List Entry) (e : Entry) → State base nodes out es
    → IsAsked base nodes out es m i index elem → IsTrue (is_scalar elem) → asked m i es ≡ None → n ≡ entry_number base i m → sort ≡ ScalarSort elem
    → Shared out (Variable n sort) out' t → es' ≡ es ++ e ∷ [] → e.map ≡ m → e.place ≡ i → e.index ≡ index → e.number ≡ n → e.entry ≡ t
    → Placed base nodes out es out' es' elem t (λ a. select_value (a m) (value a nodes i))
entry_placed base nodes out es m i index n t elem sort out' es' e st ask own none is_n is_s shared is_es e_m e_i e_x e_n e_t =
    let named : Shared out (Variable (entry_number base i m) (ScalarSort elem)) out' t =
    subst (λ (s : Sort). Shared out (Variable (entry_number base i m) s) out' t) is_s (subst (λ (k : ℕ). Shared out (Variable k sort) out' t) is_n shared) in
    subst (λ (xs : List Entry). Placed base nodes out es out' xs elem t (λ a. select_value (a m) (value a nodes i))) (sym is_es)
    (entry_new base nodes out es out' m i index t elem e st ask own none e_m e_i e_x (e_n ∙ is_n) e_t named)
