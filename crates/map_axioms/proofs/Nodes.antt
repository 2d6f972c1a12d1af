-- The reduced node of each node, from those of its children.
use Rattle.std.proofs.Common.{◌≡◌, ℕ, ◌<◌, Bool, true, false, List, [], length, sym, ◌∙◌, ap, refl, subst}
use Rattle.std.specs.Prelude.{Option, None, Some, if◌then◌else◌, slice_get, slice_index, IsTrue, IsSome}
use Rattle.std.specs.Option.{option_and_then}
use Rattle.hy_val.specs.NodeSorts.{is_sort}
use Rattle.hy_val.specs.Values.{has_sort}
use Rattle.hy_val.specs.declared.sort.Scalar.{Scalar}
use Rattle.hy_val.specs.declared.sort.ScalarKind.TheVariants.{Bool as BoolSort}
use Rattle.hy_val.specs.declared.sort.Sort.{Sort}
use Rattle.hy_val.specs.declared.sort.SortKind.TheVariants.{Scalar as ScalarSort, Map as MapSort}
use Rattle.hy_val.specs.declared.value.Value.{Value}
use Rattle.hy_val.proofs.Lawful.{keep_sorts}
use Rattle.hy_term.specs.TermSorts.{sort_of_node, sorts, sort_at, sort_behind, agree_onto}
use Rattle.hy_term.specs.Meaning.{node_value, values, value, fits}
use Rattle.hy_term.specs.Variables.{below}
use Rattle.hy_term.specs.declared.node.TermNode.{TermNode}
use Rattle.hy_term.specs.declared.node.TermNode.TheVariants.{Lit, ZeroMap, Variable, Unary, Binary, If, Select, Store}
use Rattle.hy_term.proofs.Growing.{node_values}
use Rattle.hy_term.proofs.Typing.{value_has_sort}
use Rattle.map_axioms.specs.declared.entry.Entry.{Entry}
use Rattle.map_axioms.specs.Reduction.{is_scalar_there}
use Rattle.map_axioms.specs.Steps.{home, Stands, State, AllReduced, renamed}
use Rattle.map_axioms.proofs.Cases.{case_at, unary_case, binary_case, if_case, store_case}
use Rattle.map_axioms.proofs.Homes.{number_at, below_at, home_agrees, home_source}
use Rattle.map_axioms.proofs.Standing.{Addable, addable_unary, addable_binary, addable_if}

pub has_its_sort : (a : ℕ → Value) (nodes : List TermNode) (k : ℕ) (s : Sort) → IsTrue (fits a nodes) → sort_at nodes k ≡ Some s → IsTrue (has_sort (value a nodes k) s)
has_its_sort = value_has_sort keep_sorts

some_sorts : (o : Option (List Sort)) (k : ℕ) (s : Sort) → option_and_then (λ (ss : List Sort). slice_get ss k) o ≡ Some s → IsSome o
some_sorts None k s h = cc
some_sorts (Some ss) k s h = refl

-- terms in which some node has a sort have sorts
pub sound_at : (nodes : List TermNode) (k : ℕ) (s : Sort) → sort_at nodes k ≡ Some s → IsSome (sorts nodes)
sound_at nodes k s h = some_sorts (sorts nodes) k s h

-- ---- nodes without children

leaf_by : (o : Option (List Sort)) (node : TermNode) (s : Sort) → IsSome o → ((ss : List Sort) → sort_of_node ss node ≡ Some s) → option_and_then (λ (ss : List Sort). sort_of_node ss node) o ≡ Some s
leaf_by None node s h k = cc
leaf_by (Some ss) node s h k = k ss

pub behind_leaf : (out : List TermNode) (node : TermNode) (s : Sort) → IsSome (sorts out) → ((ss : List Sort) → sort_of_node ss node ≡ Some s) → sort_behind out node ≡ Some s
behind_leaf out node s h k = leaf_by (sorts out) node s h k

pub if_is : (b : Bool) (t s : Sort) → (if b then Some t else None) ≡ Some s → (t ≡ s) × (b ≡ true)
if_is true t s h = let e : t ≡ s = cc in (e, refl)
if_is false t s h = cc

pub if_this : (b : Bool) (s : Sort) → b ≡ true → (if b then Some s else None) ≡ Some s
if_this true s h = refl
if_this false s h = cc

-- ---- one node that isn't a select

pub addable_as : (base : ℕ) (nodes out : List TermNode) (es : List Entry) (node : TermNode) (s : Scalar) (f g : (ℕ → Value) → Value) → ((a : ℕ → Value) → IsTrue (fits a nodes) → f a ≡ g a)
    → Addable base nodes out es node s f → Addable base nodes out es node s g
addable_as base nodes out es node s f g same h = record {
  behind = h.behind;
  agrees = h.agrees;
  at_home = h.at_home;
  means = λ a b ok link. h.means a b ok link ∙ same a ok;
}

abbrev pub is_select : TermNode → Bool
is_select (Lit a) = false
is_select (ZeroMap index elem) = false
is_select (Variable n s) = false
is_select (Unary op child) = false
is_select (Binary op left right) = false
is_select (If test one other) = false
is_select (Select map index) = true
is_select (Store map index value) = false

-- what the steps stand on
pub record Ground (base : ℕ) (nodes out : List TermNode) (es : List Entry) (reds : List ℕ) : Type 0 where
  pub agree : IsTrue (agree_onto [] nodes)
  pub under : IsTrue (below base nodes)
  pub state : State base nodes out es
  pub each : AllReduced nodes out es reds

module _ (base : ℕ) (nodes out : List TermNode) (es : List Entry) (reds : List ℕ) (g : Ground base nodes out es reds) where
  child : (j : ℕ) (s : Scalar) → j < length reds → sort_at nodes j ≡ Some (ScalarSort s) → Stands nodes out es s (slice_index reds j) (λ a. value a nodes j)
  child j s l h = (g.each j l).stands s h

  addable_by : (node : TermNode) (s : Scalar) → sort_at nodes (length reds) ≡ Some (ScalarSort s) → slice_get nodes (length reds) ≡ Some node → is_select node ≡ false
      → Addable base nodes out es (renamed reds node) s (λ a. node_value a (values a nodes) node)
  addable_by (Lit v) s h is other =
      let c = case_at nodes (length reds) (Lit v) (ScalarSort s) h is in
      record { behind = behind_leaf out (Lit v) (ScalarSort s) g.state.sound (λ ss. c.is); agrees = refl; at_home = tt; means = λ a b ok link. refl }
  addable_by (ZeroMap i e) s h is other =
      let c = case_at nodes (length reds) (ZeroMap i e) (ScalarSort s) h is in
      let x = if_is (is_sort (MapSort i e)) (MapSort i e) (ScalarSort s) c.is in
      absurd (let no : MapSort i e ≡ ScalarSort s → ⊥ = λ q. cc in no x.0)
  addable_by (Variable n t) s h is other =
      let c = case_at nodes (length reds) (Variable n t) (ScalarSort s) h is in
      let x = if_is (is_sort t) t (ScalarSort s) c.is in
      let is' : slice_get nodes (length reds) ≡ Some (Variable n (ScalarSort s)) = is ∙ ap (λ (r : Sort). Some (Variable n r)) x.0 in
      let at_home : home base nodes n ≡ Some (ScalarSort s) = home_source base nodes n (below_at base nodes (length reds) n (ScalarSort s) g.under is') ∙ number_at nodes (length reds) n (ScalarSort s) g.agree is' in
      subst (λ (r : Sort). Addable base nodes out es (Variable n r) s (λ a. a n)) (sym x.0) (record {
        behind = behind_leaf out (Variable n (ScalarSort s)) (ScalarSort s) g.state.sound (λ ss. ap (λ (r : Sort). if is_sort r then Some r else None) (sym x.0) ∙ c.is);
        agrees = home_agrees base nodes out n (ScalarSort s) g.state.at_home at_home;
        at_home = at_home;
        means = λ a b ok link. sym (link.scalars n (ap (λ (o : Option Sort). is_scalar_there o) (number_at nodes (length reds) n (ScalarSort s) g.agree is')));
      })
  addable_by (Unary op j) s h is other =
      let c = case_at nodes (length reds) (Unary op j) (ScalarSort s) h is in
      let u = unary_case op (slice_get c.known j) (ScalarSort s) c.is in
      let l = c.lower j (ScalarSort u.operand) u.there in
      let same : u.answer ≡ s = let e = u.is in cc in
      addable_unary base nodes out es op (slice_index reds j) u.operand s (λ a. value a nodes j) (child j u.operand l.0 l.1) (u.fits ∙ ap Some same)
  addable_by (Binary op i j) s h is other =
      let c = case_at nodes (length reds) (Binary op i j) (ScalarSort s) h is in
      let u = binary_case op (slice_get c.known i) (slice_get c.known j) (ScalarSort s) c.is in
      let l = c.lower i (ScalarSort u.left) u.left_there in
      let r = c.lower j (ScalarSort u.right) u.right_there in
      let same : u.answer ≡ s = let e = u.is in cc in
      addable_binary base nodes out es op (slice_index reds i) (slice_index reds j) u.left u.right s (λ a. value a nodes i) (λ a. value a nodes j)
      (child i u.left l.0 l.1) (child j u.right r.0 r.1) (u.fits ∙ ap Some same)
  addable_by (If t i j) s h is other =
      let c = case_at nodes (length reds) (If t i j) (ScalarSort s) h is in
      let u = if_case (slice_get c.known t) (slice_get c.known i) (slice_get c.known j) (ScalarSort s) c.is in
      let x = c.lower t (ScalarSort BoolSort) u.test in
      let y = c.lower i (ScalarSort s) u.one in
      let z = c.lower j (ScalarSort s) u.other in
      addable_if base nodes out es (slice_index reds t) (slice_index reds i) (slice_index reds j) s (λ a. value a nodes t) (λ a. value a nodes i) (λ a. value a nodes j)
      (child t BoolSort x.0 x.1) (child i s y.0 y.1) (child j s z.0 z.1)
  addable_by (Select m i) s h is other = cc
  addable_by (Store m i v) s h is other =
      let c = case_at nodes (length reds) (Store m i v) (ScalarSort s) h is in
      let u = store_case (slice_get c.known m) (slice_get c.known i) (slice_get c.known v) (ScalarSort s) c.is in
      absurd (let no : ScalarSort s ≡ MapSort u.index u.elem → ⊥ = λ q. cc in no u.is)

  pub addable_node : (node : TermNode) (s : Scalar) → sort_at nodes (length reds) ≡ Some (ScalarSort s) → slice_get nodes (length reds) ≡ Some node → is_select node ≡ false
      → Addable base nodes out es (renamed reds node) s (λ a. value a nodes (length reds))
  addable_node node s h is other =
      addable_as base nodes out es (renamed reds node) s (λ a. node_value a (values a nodes) node) (λ a. value a nodes (length reds))
      (λ a ok. sym (node_values a nodes (length reds) node (sound_at nodes (length reds) (ScalarSort s) h) is))
      (addable_by node s h is other)
