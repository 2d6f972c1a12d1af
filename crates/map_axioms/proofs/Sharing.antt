-- What a node that is put among terms gives, where it stands behind the others and where an equal one stood there before.
use Rattle.std.proofs.Common.{◌≡◌, ◌⊎◌, inl, inr, ℕ, zero, suc, Bool, List, [], ◌∷◌, ◌++◌, length, sym, ◌∙◌, ap, refl, subst}
use Rattle.std.specs.Prelude.{Option, None, Some, is_some, if◌then◌else◌, slice_get, IsSome}
use Rattle.std.specs.Option.{option_and_then}
use Rattle.std.proofs.lemmas.Option.{slice_get_within}
use Rattle.hy_val.specs.NodeSorts.{as_scalar, branch_sort, if_sort}
use Rattle.hy_val.specs.declared.sort.Scalar.{Scalar}
use Rattle.hy_val.specs.declared.sort.ScalarKind.TheVariants.{Bool as BoolSort}
use Rattle.hy_val.specs.declared.sort.Sort.{Sort}
use Rattle.hy_val.specs.declared.sort.SortKind.TheVariants.{Scalar as ScalarSort}
use Rattle.hy_val.specs.declared.value.Value.{Value}
use Rattle.hy_val.proofs.Lists.{slice_get-seam}
use Rattle.hy_term.specs.TermSorts.{named, or_else, sorts, sort_at, sort_behind, sort_of_number}
use Rattle.hy_term.specs.Meaning.{node_value, values, value}
use Rattle.hy_term.specs.declared.node.TermNode.{TermNode}
use Rattle.hy_term.specs.declared.node.TermNode.TheVariants.{Lit, ZeroMap, Variable, Unary, Binary, If, Select, Store}
use Rattle.hy_term.proofs.Growing.{node_values, value-new}
use Rattle.hy_term.proofs.Sorting.{sort_there, sort_got}
use Rattle.map_axioms.specs.declared.entry.Entry.{Entry}
use Rattle.map_axioms.specs.Shared.{Shared}
use Rattle.map_axioms.specs.Steps.{IsHome, Later, State, Placed}
use Rattle.map_axioms.proofs.Cases.{case_at, unary_case, binary_case, if_case, added, sort_added, behind_unary, behind_binary}
use Rattle.map_axioms.proofs.Homes.{same_number, same_sort_self}
use Rattle.map_axioms.proofs.Standing.{Addable, later_same, later_push, state_push, linked_back}
use Rattle.map_axioms.proofs.Nodes.{behind_leaf, sound_at}

-- ---- a node that stands among the terms may be added to them, with the sort that it has

branches_again : (s : Sort) → branch_sort (Some s) (Some s) ≡ Some s
branches_again s = ap (λ (b : Bool). if b then Some s else None) (same_sort_self s)

if_again : (o : Option (List Sort)) (c y n : ℕ) (s : Sort) → option_and_then (λ (ss : List Sort). slice_get ss c) o ≡ Some (ScalarSort BoolSort) → option_and_then (λ (ss : List Sort). slice_get ss y) o ≡ Some s
    → option_and_then (λ (ss : List Sort). slice_get ss n) o ≡ Some s → option_and_then (λ (ss : List Sort). if_sort (as_scalar (slice_get ss c)) (slice_get ss y) (slice_get ss n)) o ≡ Some s
if_again None c y n s h k e = cc
if_again (Some ss) c y n s h k e =
    ap (λ (x : Option Sort). if_sort (as_scalar x) (slice_get ss y) (slice_get ss n)) h ∙ ap (λ (x : Option Sort). branch_sort x (slice_get ss n)) k
    ∙ ap (λ (x : Option Sort). branch_sort (Some s) x) e ∙ branches_again s

again : (base : ℕ) (nodes out : List TermNode) (k : ℕ) (node : TermNode) (s : Sort) → IsHome base nodes node → sort_at out k ≡ Some s → slice_get out k ≡ Some node → sort_behind out node ≡ Some s
again base nodes out k (Lit v) s home h is = let c = case_at out k (Lit v) s h is in behind_leaf out (Lit v) s (sound_at out k s h) (λ ss. c.is)
again base nodes out k (ZeroMap i e) s home h is = absurd home
again base nodes out k (Variable n t) s home h is = let c = case_at out k (Variable n t) s h is in behind_leaf out (Variable n t) s (sound_at out k s h) (λ ss. c.is)
again base nodes out k (Unary op j) s home h is =
    let c = case_at out k (Unary op j) s h is in
    let u = unary_case op (slice_get c.known j) s c.is in
    let l = c.lower j (ScalarSort u.operand) u.there in
    behind_unary out op j u.operand u.answer l.1 u.fits ∙ ap Some (sym u.is)
again base nodes out k (Binary op i j) s home h is =
    let c = case_at out k (Binary op i j) s h is in
    let u = binary_case op (slice_get c.known i) (slice_get c.known j) s c.is in
    let l = c.lower i (ScalarSort u.left) u.left_there in
    let r = c.lower j (ScalarSort u.right) u.right_there in
    behind_binary out op i j u.left u.right u.answer l.1 r.1 u.fits ∙ ap Some (sym u.is)
again base nodes out k (If t i j) s home h is =
    let c = case_at out k (If t i j) s h is in
    let u = if_case (slice_get c.known t) (slice_get c.known i) (slice_get c.known j) s c.is in
    let x = c.lower t (ScalarSort BoolSort) u.test in
    let y = c.lower i s u.one in
    let z = c.lower j s u.other in
    if_again (sorts out) t i j s x.1 y.1 z.1
again base nodes out k (Select m i) s home h is = absurd home
again base nodes out k (Store m i v) s home h is = absurd home

-- ---- what the node's number gives

pub record Given (base : ℕ) (nodes out : List TermNode) (es : List Entry) (node : TermNode) (s : Sort) (out' : List TermNode) (t : ℕ) : Type 0 where
  pub state : State base nodes out' es
  pub later : Later out es out' es
  pub sort : sort_at out' t ≡ Some s
  pub is : (b : ℕ → Value) → value b out' t ≡ node_value b (values b out) node

module _ (base : ℕ) (nodes out : List TermNode) (es : List Entry) (node : TermNode) (s : Sort) (st : State base nodes out es) (behind : sort_behind out node ≡ Some s) (home : IsHome base nodes node) where
  given_old : (t : ℕ) → slice_get out t ≡ Some node → Given base nodes out es node s out t
  given_old t is =
      let a = added out node s behind in
      let x = sort_there out a.old t a.old_is (slice_get_within out t node is) in
      let got : sort_at out t ≡ Some x.0 = sort_got out a.old t x.0 a.old_is x.1 in
      let both : Some x.0 ≡ Some s = sym (again base nodes out t node x.0 home got is) ∙ behind in
      record { state = st; later = later_same base nodes out es st; sort = got ∙ both; is = λ b. node_values b out t node st.sound is }

  given_new : Given base nodes out es node s (out ++ node ∷ []) (length out)
  given_new = record {
    state = state_push base nodes out es node s st behind home;
    later = later_push base nodes out es node s st behind;
    sort = sort_added out node s behind;
    is = λ b. value-new b out node;
  }

  given_by : (out' : List TermNode) (t : ℕ) → ((slice_get out t ≡ Some node) × (out' ≡ out)) ⊎ ((t ≡ length out) × (out' ≡ out ++ node ∷ [])) → Given base nodes out es node s out' t
  given_by out' t (inl h) = subst (λ (ns : List TermNode). Given base nodes out es node s ns t) (sym h.1) (given_old t h.0)
  given_by out' t (inr h) =
      subst (λ (k : ℕ). Given base nodes out es node s out' k) (sym h.0)
      (subst (λ (ns : List TermNode). Given base nodes out es node s ns (length out)) (sym h.1) given_new)

  pub given : (out' : List TermNode) (t : ℕ) → Shared out node out' t → Given base nodes out es node s out' t
  given out' t h = given_by out' t h.is

-- a node that stands for a term
pub placed : (base : ℕ) (nodes out : List TermNode) (es : List Entry) (out' : List TermNode) (node : TermNode) (s : Scalar) (t : ℕ) (f : (ℕ → Value) → Value) → State base nodes out es
    → Addable base nodes out es node s f → Shared out node out' t → Placed base nodes out es out' es s t f
placed base nodes out es out' node s t f st h shared =
    let g = given base nodes out es node (ScalarSort s) st h.behind h.at_home out' t shared in
    record {
      state = g.state;
      later = g.later;
      stands = record { sort = g.sort; means = λ a b fit link. g.is b ∙ h.means a b fit (linked_back out es out' es g.later nodes a b link) };
    }

-- ---- where the node stands

stands_by : (out : List TermNode) (node : TermNode) (out' : List TermNode) (t : ℕ) → ((slice_get out t ≡ Some node) × (out' ≡ out)) ⊎ ((t ≡ length out) × (out' ≡ out ++ node ∷ [])) → slice_get out' t ≡ Some node
stands_by out node out' t (inl h) = ap (λ (ns : List TermNode). slice_get ns t) h.1 ∙ h.0
stands_by out node out' t (inr h) = ap (slice_get out') h.0 ∙ ap (λ (ns : List TermNode). slice_get ns (length out)) h.1 ∙ slice_get-seam out node

pub stands_at : (out : List TermNode) (node : TermNode) (out' : List TermNode) (t : ℕ) → Shared out node out' t → slice_get out' t ≡ Some node
stands_at out node out' t h = stands_by out node out' t h.is

or_else_some : (o p : Option Sort) → IsSome p → IsSome (or_else o p)
or_else_some None p h = h
or_else_some (Some s) p h = refl

named_some : (n : ℕ) (s : Sort) (o : Option Sort) → IsSome (or_else (named n (Variable n s)) o)
named_some n s o = ap (λ (b : Bool). is_some (or_else (if b then Some s else None) o)) (same_number n)

number_some : (n : ℕ) (xs : List TermNode) (k : ℕ) (s : Sort) → slice_get xs k ≡ Some (Variable n s) → IsSome (sort_of_number n xs)
number_some n [] k s is = cc
number_some n (x ∷ xs) zero s is =
    let same : x ≡ Variable n s = cc in
    subst (λ (y : TermNode). IsSome (or_else (named n y) (sort_of_number n xs))) (sym same) (named_some n s (sort_of_number n xs))
number_some n (x ∷ xs) (suc k) s is = or_else_some (named n x) (sort_of_number n xs) (number_some n xs k s is)

only_by : (o : Option Sort) (s : Sort) → IsSome o → ((u : Sort) → o ≡ Some u → u ≡ s) → o ≡ Some s
only_by None s h k = cc
only_by (Some u) s h k = ap Some (k u refl)

-- a variable that stands among the nodes has its sort, where its number can have no other
pub number_there : (n : ℕ) (xs : List TermNode) (k : ℕ) (s : Sort) → slice_get xs k ≡ Some (Variable n s) → ((u : Sort) → sort_of_number n xs ≡ Some u → u ≡ s) → sort_of_number n xs ≡ Some s
number_there n xs k s is only = only_by (sort_of_number n xs) s (number_some n xs k s is) only
