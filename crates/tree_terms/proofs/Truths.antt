-- Nodes with literal operands: their sorts and their values.
use Rattle.std.proofs.Common.{◌≡◌, ℕ, ◌<◌, ◌^◌, Bool, true, false, ◌&&◌, List, length, take, refl, sym, ap, ◌∙◌, subst, arith}
use Rattle.std.specs.Prelude.{if◌then◌else◌, Option, None, Some, slice_get, nat_eq, nat_lt, IsSome, IsTrue}
use Rattle.std.proofs.Math.Bool.{beq}
use Rattle.std.specs.Option.{option_and_then}
use Rattle.std.proofs.lemmas.Bool.{and_parts, ltb-true}
use Rattle.std.proofs.lemmas.Bool.Decides.{nat_tests}
use Rattle.std.proofs.lemmas.Option.{slice_get_within}
use Rattle.hy_val.specs.Sorts.{scalar_of, is_scalar, has_scalar}
use Rattle.hy_val.specs.Operators.{apply, apply1, apply_to_bools, sort_of_unary, sort_of_binary}
use Rattle.hy_val.specs.NodeSorts.{as_sort, as_scalar, unary_sort, binary_sort, branch_sort, if_sort, same_sort}
use Rattle.hy_val.specs.Values.{has_sort, is_on, unary_value, binary_value, pick}
use Rattle.hy_val.specs.Laws.{ValuesKeepSorts}
use Rattle.hy_val.specs.declared.atom.Atom.{Atom}
use Rattle.hy_val.specs.declared.atom.AtomKind.TheVariants.{Bool as BoolAtom, Bv as BvAtom}
use Rattle.hy_val.specs.declared.operator.UnOp.{UnOp}
use Rattle.hy_val.specs.declared.operator.UnOp.TheVariants.{Not}
use Rattle.hy_val.specs.declared.operator.BvOp.{BvOp}
use Rattle.hy_val.specs.declared.sort.Scalar.{Scalar}
use Rattle.hy_val.specs.declared.sort.ScalarKind.TheVariants.{Bool as BoolSort, Bv as BvSort}
use Rattle.hy_val.specs.declared.sort.Sort.{Sort}
use Rattle.hy_val.specs.declared.sort.SortKind.TheVariants.{Scalar as ScalarSort, Map as MapSort}
use Rattle.hy_val.specs.declared.value.Value.{Value}
use Rattle.hy_val.specs.declared.value.Value.TheVariants.{Atom as AtomValue, Map as MapValue}
use Rattle.hy_term.specs.TermSorts.{sort_of_node, sorts, sort_at, sort_behind, fits_behind}
use Rattle.hy_term.specs.Meaning.{fits, value}
use Rattle.hy_term.specs.Laws.{EachNodeHasItsSort, EachNodeHasItsValue, EachValueHasItsSort}
use Rattle.hy_term.specs.declared.node.TermNode.{TermNode}
use Rattle.hy_term.specs.declared.node.TermNode.TheVariants.{Lit, Unary, Binary, If}
use Rattle.hy_term.proofs.Typing.{same_sort_is}
use Rattle.tree_terms.specs.Folding.{bool_sort, IsKnown, IsLike, IsConstant, IsByTruth}
use Rattle.tree_terms.proofs.Growth.{fits_by, fits_some, of_sorts, sort_here, sorts_are}
use Rattle.tree_terms.proofs.Parts.{behind_lower}

-- ---- the sort of a node behind others, by those of its children

unary_by : (o : Option (List Sort)) (op : UnOp) (c : ℕ) → IsSome o
    → option_and_then (λ (ss : List Sort). sort_of_node ss (Unary op c)) o ≡ unary_sort op (as_scalar (option_and_then (λ (ss : List Sort). slice_get ss c) o))
unary_by None op c h = cc
unary_by (Some ss) op c h = refl

binary_by : (o : Option (List Sort)) (op : BvOp) (l r : ℕ) → IsSome o
    → option_and_then (λ (ss : List Sort). sort_of_node ss (Binary op l r)) o
    ≡ binary_sort op (as_scalar (option_and_then (λ (ss : List Sort). slice_get ss l) o)) (as_scalar (option_and_then (λ (ss : List Sort). slice_get ss r) o))
binary_by None op l r h = cc
binary_by (Some ss) op l r h = refl

if_by : (o : Option (List Sort)) (c y n : ℕ) → IsSome o
    → option_and_then (λ (ss : List Sort). sort_of_node ss (If c y n)) o
    ≡ if_sort (as_scalar (option_and_then (λ (ss : List Sort). slice_get ss c) o)) (option_and_then (λ (ss : List Sort). slice_get ss y) o) (option_and_then (λ (ss : List Sort). slice_get ss n) o)
if_by None c y n h = cc
if_by (Some ss) c y n h = refl

lit_by : (o : Option (List Sort)) (v : Atom) → IsSome o → has_scalar v (scalar_of v) ≡ true
    → option_and_then (λ (ss : List Sort). sort_of_node ss (Lit v)) o ≡ Some (ScalarSort (scalar_of v))
lit_by None v h k = cc
lit_by (Some ss) v h k = ap (λ (b : Bool). if b then Some (ScalarSort (scalar_of v)) else None) k

pub behind_unary_is : (nodes : List TermNode) (op : UnOp) (c : ℕ) → IsSome (sorts nodes) → sort_behind nodes (Unary op c) ≡ unary_sort op (as_scalar (sort_at nodes c))
behind_unary_is nodes = unary_by (sorts nodes)

pub behind_binary_is : (nodes : List TermNode) (op : BvOp) (l r : ℕ) → IsSome (sorts nodes)
    → sort_behind nodes (Binary op l r) ≡ binary_sort op (as_scalar (sort_at nodes l)) (as_scalar (sort_at nodes r))
behind_binary_is nodes = binary_by (sorts nodes)

pub behind_if_is : (nodes : List TermNode) (c y n : ℕ) → IsSome (sorts nodes)
    → sort_behind nodes (If c y n) ≡ if_sort (as_scalar (sort_at nodes c)) (sort_at nodes y) (sort_at nodes n)
behind_if_is nodes = if_by (sorts nodes)

pub behind_lit : (nodes : List TermNode) (v : Atom) → IsSome (sorts nodes) → has_scalar v (scalar_of v) ≡ true → sort_behind nodes (Lit v) ≡ Some (ScalarSort (scalar_of v))
behind_lit nodes = lit_by (sorts nodes)

-- the left operand is a node
pub left_within : (nodes : List TermNode) (op : BvOp) (l r : ℕ) → IsSome (sorts nodes) → IsTrue (fits_behind nodes (Binary op l r)) → l < length nodes
left_within nodes op l r ok fit = ltb-true l (length nodes) (and_parts (nat_lt l (length nodes)) (nat_lt r (length nodes)) (behind_lower nodes (Binary op l r) ok fit)).0

-- ---- literals

pub lit_sort : EachNodeHasItsSort → (nodes : List TermNode) (k : ℕ) (v : Atom) → IsSome (sorts nodes) → slice_get nodes k ≡ Some (Lit v)
    → sort_at nodes k ≡ Some (ScalarSort (scalar_of v))
lit_sort law nodes k v ok is =
    let n = sorts_are (sorts nodes) ok in
    let s = sort_here nodes k ok (slice_get_within nodes k (Lit v) is) in
    let e : sort_at nodes k ≡ sort_of_node (take k n.0) (Lit v) = of_sorts nodes n.0 k n.1 ∙ law nodes n.0 k (Lit v) n.1 is in
    e ∙ by_test (has_scalar v (scalar_of v)) s.0 (sym e ∙ s.1)
  where
    by_test : (b : Bool) (s : Sort) → (if b then Some (ScalarSort (scalar_of v)) else None) ≡ Some s → (if b then Some (ScalarSort (scalar_of v)) else None) ≡ Some (ScalarSort (scalar_of v))
    by_test true s h = refl
    by_test false s h = cc

pub lit_value : EachNodeHasItsValue → (a : ℕ → Value) (nodes : List TermNode) (k : ℕ) (v : Atom) → IsSome (sorts nodes) → slice_get nodes k ≡ Some (Lit v) → value a nodes k ≡ AtomValue v
lit_value law a nodes k v ok is = law a nodes k (Lit v) ok is

pub literal_kept : EachNodeHasItsSort → (nodes : List TermNode) (k : ℕ) (v : Atom) → IsSome (sorts nodes) → slice_get nodes k ≡ Some (Lit v) → has_scalar v (scalar_of v) ≡ true
literal_kept law nodes k v ok is =
    let n = sorts_are (sorts nodes) ok in
    by_test (has_scalar v (scalar_of v)) (sym (law nodes n.0 k (Lit v) n.1 is) ∙ (sym (of_sorts nodes n.0 k n.1) ∙ lit_sort law nodes k v ok is))
  where
    by_test : (b : Bool) → (if b then Some (ScalarSort (scalar_of v)) else None) ≡ Some (ScalarSort (scalar_of v)) → b ≡ true
    by_test true h = refl
    by_test false h = cc

-- a value of a scalar sort has that sort alone
scalar_is : (v : Atom) (s : Scalar) → has_scalar v s ≡ true → scalar_of v ≡ s
scalar_is (BoolAtom b) BoolSort h = refl
scalar_is (BoolAtom b) (BvSort w) h = cc
scalar_is (BvAtom v) BoolSort h = cc
scalar_is (BvAtom v) (BvSort w) h =
    let b = and_parts (nat_eq v.width w && is_scalar (BvSort w)) (nat_lt v.bits (2 ^ w)) h in
    let e = (and_parts (nat_eq v.width w) (is_scalar (BvSort w)) b.0).0 in
    let f : v.width ≡ w = grind (arith, nat_tests, e) in ap (λ (n : ℕ). BvSort n) f

-- ---- bools

-- a bool's value
pub record IsTruth (v : Value) : Type 0 where
  pub bit : Bool
  pub is : v ≡ AtomValue (BoolAtom bit)

truth_atom : (a : Atom) → has_scalar a BoolSort ≡ true → IsTruth (AtomValue a)
truth_atom (BoolAtom b) h = record { bit = b; is = refl }
truth_atom (BvAtom w) h = cc

truth_value : (v : Value) → has_sort v bool_sort ≡ true → IsTruth v
truth_value (AtomValue a) h = truth_atom a h
truth_value (MapValue m) h = cc

pub truth_at : EachValueHasItsSort → (a : ℕ → Value) (nodes : List TermNode) (t : ℕ) → IsTrue (fits a nodes) → sort_at nodes t ≡ Some bool_sort → IsTruth (value a nodes t)
truth_at law a nodes t f h = truth_value (value a nodes t) (law a nodes t bool_sort f h)

-- what an operator makes of two bools is a bool
bools_make : ValuesKeepSorts → (op : BvOp) (t : Scalar) → sort_of_binary op BoolSort BoolSort ≡ Some t → t ≡ BoolSort
bools_make keep op t h = by_sort t (keep.binary op (AtomValue (BoolAtom true)) (AtomValue (BoolAtom true)) BoolSort BoolSort t refl refl h)
  where
    by_sort : (t : Scalar) → has_scalar (BoolAtom (apply_to_bools op true true)) t ≡ true → t ≡ BoolSort
    by_sort BoolSort k = refl
    by_sort (BvSort w) k = cc

as_sort_is : (o : Option Scalar) (s : Sort) → as_sort o ≡ Some s → (t : Scalar) × (o ≡ Some t) × (s ≡ ScalarSort t)
as_sort_is None s h = cc
as_sort_is (Some t) s h = (t, refl, cc)

-- an operator on a bool and another operand
pub record OnBools (op : BvOp) (o : Option Sort) (s : Sort) : Type 0 where
  pub other : o ≡ Some bool_sort
  pub here : s ≡ bool_sort
  pub some : IsSome (sort_of_binary op BoolSort BoolSort)

made_some : (o : Option Scalar) (t : Scalar) → o ≡ Some t → IsSome o
made_some None t h = cc
made_some (Some s) t h = refl

on_bools_by : ValuesKeepSorts → (op : BvOp) (s : Sort) → as_sort (sort_of_binary op BoolSort BoolSort) ≡ Some s → OnBools op (Some bool_sort) s
on_bools_by keep op s h =
    let t = as_sort_is (sort_of_binary op BoolSort BoolSort) s h in
    record { other = refl; here = t.2 ∙ ap (λ (r : Scalar). ScalarSort r) (bools_make keep op t.0 t.1); some = made_some (sort_of_binary op BoolSort BoolSort) t.0 t.1 }

left_bool : ValuesKeepSorts → (op : BvOp) (o : Option Sort) (s : Sort) → binary_sort op (Some BoolSort) (as_scalar o) ≡ Some s → OnBools op o s
left_bool keep op None s h = cc
left_bool keep op (Some (ScalarSort BoolSort)) s h = on_bools_by keep op s h
left_bool keep op (Some (ScalarSort (BvSort w))) s h = cc
left_bool keep op (Some (MapSort i e)) s h = cc

right_bool : ValuesKeepSorts → (op : BvOp) (o : Option Sort) (s : Sort) → binary_sort op (as_scalar o) (Some BoolSort) ≡ Some s → OnBools op o s
right_bool keep op None s h = cc
right_bool keep op (Some (ScalarSort BoolSort)) s h = on_bools_by keep op s h
right_bool keep op (Some (ScalarSort (BvSort w))) s h = cc
right_bool keep op (Some (MapSort i e)) s h = cc

pub bools_left : ValuesKeepSorts → (nodes : List TermNode) (op : BvOp) (l r : ℕ) → IsSome (sorts nodes) → IsTrue (fits_behind nodes (Binary op l r)) → sort_at nodes l ≡ Some bool_sort
    → OnBools op (sort_at nodes r) bool_sort × (sort_behind nodes (Binary op l r) ≡ Some bool_sort)
bools_left keep nodes op l r ok fit left =
    let s = fits_some nodes (Binary op l r) fit in
    let e : binary_sort op (Some BoolSort) (as_scalar (sort_at nodes r)) ≡ Some s.0 =
    ap (λ (o : Option Sort). binary_sort op (as_scalar o) (as_scalar (sort_at nodes r))) (sym left) ∙ (sym (behind_binary_is nodes op l r ok) ∙ s.1) in
    let b = left_bool keep op (sort_at nodes r) s.0 e in
    (record { other = b.other; here = refl; some = b.some }, s.1 ∙ ap (λ (x : Sort). Some x) b.here)

pub bools_right : ValuesKeepSorts → (nodes : List TermNode) (op : BvOp) (l r : ℕ) → IsSome (sorts nodes) → IsTrue (fits_behind nodes (Binary op l r)) → sort_at nodes r ≡ Some bool_sort
    → OnBools op (sort_at nodes l) bool_sort × (sort_behind nodes (Binary op l r) ≡ Some bool_sort)
bools_right keep nodes op l r ok fit right =
    let s = fits_some nodes (Binary op l r) fit in
    let e : binary_sort op (as_scalar (sort_at nodes l)) (Some BoolSort) ≡ Some s.0 =
    ap (λ (o : Option Sort). binary_sort op (as_scalar (sort_at nodes l)) (as_scalar o)) (sym right) ∙ (sym (behind_binary_is nodes op l r ok) ∙ s.1) in
    let b = right_bool keep op (sort_at nodes l) s.0 e in
    (record { other = b.other; here = refl; some = b.some }, s.1 ∙ ap (λ (x : Sort). Some x) b.here)

-- ---- what stands for a node

some_sorts : (nodes : List TermNode) (node : TermNode) (s : Sort) → sort_behind nodes node ≡ Some s → IsSome (sorts nodes)
some_sorts nodes node s h = by_sorts (sorts nodes) h
  where
    by_sorts : (o : Option (List Sort)) → option_and_then (λ (ss : List Sort). sort_of_node ss node) o ≡ Some s → IsSome o
    by_sorts None h = cc
    by_sorts (Some ss) h = refl

pub constant_is : (nodes : List TermNode) (node : TermNode) (v : Atom) → has_scalar v (scalar_of v) ≡ true → IsConstant nodes node v → IsLike nodes node (Lit v)
constant_is nodes node v kept c =
    let sort : sort_behind nodes (Lit v) ≡ Some (ScalarSort (scalar_of v)) = behind_lit nodes v (some_sorts nodes node (ScalarSort (scalar_of v)) c.sort) kept in
    record { behind = fits_by nodes (Lit v) (ScalarSort (scalar_of v)) sort refl; sort = sort ∙ sym c.sort; value = λ a f. sym (c.value a f); fit = λ a h. refl; low = λ k h. refl }

if_same : (b x : Bool) → (if b then x else x) ≡ x
if_same true x = refl
if_same false x = refl

pub truth_constant : (nodes : List TermNode) (node : TermNode) (child : ℕ) (low high : Bool) → low ≡ high → IsByTruth nodes node child low high → IsConstant nodes node (BoolAtom low)
truth_constant nodes node child low high same t = record {
  sort = t.sort;
  value = λ a f. t.value a f ∙ ap (λ (b : Bool). AtomValue (BoolAtom b)) (ap (λ (h : Bool). if is_on (value a nodes child) then h else low) (sym same) ∙ if_same (is_on (value a nodes child)) low);
}

truth_is : (b : Bool) → AtomValue (BoolAtom b) ≡ AtomValue (BoolAtom (if b then true else false))
truth_is true = refl
truth_is false = refl

turned_is : (b : Bool) → unary_value Not (AtomValue (BoolAtom b)) ≡ AtomValue (BoolAtom (if b then false else true))
turned_is true = refl
turned_is false = refl

-- where two bools differ
pub low_is : (low high : Bool) → beq low high ≡ false → high ≡ true → low ≡ false
low_is true high off is = let e : beq true true ≡ false = ap (beq true) (sym is) ∙ off in cc
low_is false high off is = refl

pub low_on : (low high : Bool) → beq low high ≡ false → high ≡ false → low ≡ true
low_on true high off is = refl
low_on false high off is = let e : beq false false ≡ false = ap (beq false) (sym is) ∙ off in cc

pub truths : (nodes : List TermNode) (node : TermNode) (child : ℕ) (low high low2 high2 : Bool) → low ≡ low2 → high ≡ high2 → IsByTruth nodes node child low high → IsByTruth nodes node child low2 high2
truths nodes node child low high low2 high2 p q t = subst (λ (b : Bool). IsByTruth nodes node child b high2) p (subst (λ (b : Bool). IsByTruth nodes node child low b) q t)

pub truth_known : EachValueHasItsSort → (nodes : List TermNode) (node : TermNode) (child : ℕ) → IsByTruth nodes node child false true → IsKnown nodes node child
truth_known law nodes node child t = record {
  sort = t.bool ∙ sym t.sort;
  value = λ a f. let b = truth_at law a nodes child f t.bool in
      b.is ∙ (truth_is b.bit ∙ (ap (λ (v : Value). AtomValue (BoolAtom (if is_on v then true else false))) (sym b.is) ∙ sym (t.value a f)));
}

pub truth_turned : EachValueHasItsSort → (nodes : List TermNode) (node : TermNode) (child : ℕ) → IsByTruth nodes node child true false → IsLike nodes node (Unary Not child)
truth_turned law nodes node child t =
    let sort : sort_behind nodes (Unary Not child) ≡ Some bool_sort =
    behind_unary_is nodes Not child (some_sorts nodes node bool_sort t.sort) ∙ ap (λ (o : Option Sort). unary_sort Not (as_scalar o)) t.bool in
    record {
      behind = fits_by nodes (Unary Not child) bool_sort sort refl;
      sort = sort ∙ sym t.sort;
      value = λ a f. let b = truth_at law a nodes child f t.bool in
          ap (unary_value Not) b.is ∙ (turned_is b.bit ∙ (ap (λ (v : Value). AtomValue (BoolAtom (if is_on v then false else true))) (sym b.is) ∙ sym (t.value a f)));
      fit = λ a h. refl;
      low = λ k h. refl;
    }

-- ---- operators with a literal bool

by_left : (op : BvOp) (b x : Bool) → AtomValue (BoolAtom (apply_to_bools op b x)) ≡ AtomValue (BoolAtom (if x then apply_to_bools op b true else apply_to_bools op b false))
by_left op b true = refl
by_left op b false = refl

by_right : (op : BvOp) (b x : Bool) → AtomValue (BoolAtom (apply_to_bools op x b)) ≡ AtomValue (BoolAtom (if x then apply_to_bools op true b else apply_to_bools op false b))
by_right op b true = refl
by_right op b false = refl

by_both : (op : BvOp) (x : Bool) → AtomValue (BoolAtom (apply_to_bools op x x)) ≡ AtomValue (BoolAtom (if x then apply_to_bools op true true else apply_to_bools op false false))
by_both op true = refl
by_both op false = refl

pub left_means : EachNodeHasItsValue → EachNodeHasItsSort → EachValueHasItsSort → ValuesKeepSorts → (nodes : List TermNode) (op : BvOp) (l r : ℕ) (b : Bool) → IsSome (sorts nodes)
    → IsTrue (fits_behind nodes (Binary op l r)) → slice_get nodes l ≡ Some (Lit (BoolAtom b)) → IsByTruth nodes (Binary op l r) r (apply_to_bools op b false) (apply_to_bools op b true)
left_means law sorted typed keep nodes op l r b ok fit is =
    let d = bools_left keep nodes op l r ok fit (lit_sort sorted nodes l (BoolAtom b) ok is) in
    record {
      bool = d.0.other;
      sort = d.1;
      value = λ a f. let t = truth_at typed a nodes r f d.0.other in
          ap (λ (v : Value). binary_value op v (value a nodes r)) (lit_value law a nodes l (BoolAtom b) ok is)
          ∙ (ap (λ (v : Value). binary_value op (AtomValue (BoolAtom b)) v) t.is
          ∙ (by_left op b t.bit
          ∙ ap (λ (v : Value). AtomValue (BoolAtom (if is_on v then apply_to_bools op b true else apply_to_bools op b false))) (sym t.is)));
    }

pub right_means : EachNodeHasItsValue → EachNodeHasItsSort → EachValueHasItsSort → ValuesKeepSorts → (nodes : List TermNode) (op : BvOp) (l r : ℕ) (b : Bool) → IsSome (sorts nodes)
    → IsTrue (fits_behind nodes (Binary op l r)) → slice_get nodes r ≡ Some (Lit (BoolAtom b)) → IsByTruth nodes (Binary op l r) l (apply_to_bools op false b) (apply_to_bools op true b)
right_means law sorted typed keep nodes op l r b ok fit is =
    let d = bools_right keep nodes op l r ok fit (lit_sort sorted nodes r (BoolAtom b) ok is) in
    record {
      bool = d.0.other;
      sort = d.1;
      value = λ a f. let t = truth_at typed a nodes l f d.0.other in
          ap (λ (v : Value). binary_value op (value a nodes l) v) (lit_value law a nodes r (BoolAtom b) ok is)
          ∙ (ap (λ (v : Value). binary_value op v (AtomValue (BoolAtom b))) t.is
          ∙ (by_right op b t.bit
          ∙ ap (λ (v : Value). AtomValue (BoolAtom (if is_on v then apply_to_bools op true b else apply_to_bools op false b))) (sym t.is)));
    }

pub same_means : EachValueHasItsSort → ValuesKeepSorts → (nodes : List TermNode) (op : BvOp) (c : ℕ) → IsSome (sorts nodes) → IsTrue (fits_behind nodes (Binary op c c)) → sort_at nodes c ≡ Some bool_sort
    → IsByTruth nodes (Binary op c c) c (apply_to_bools op false false) (apply_to_bools op true true)
same_means typed keep nodes op c ok fit bool =
    let d = bools_left keep nodes op c c ok fit bool in
    record {
      bool = bool;
      sort = d.1;
      value = λ a f. let t = truth_at typed a nodes c f bool in
          ap (λ (v : Value). binary_value op v v) t.is
          ∙ (by_both op t.bit
          ∙ ap (λ (v : Value). AtomValue (BoolAtom (if is_on v then apply_to_bools op true true else apply_to_bools op false false))) (sym t.is));
    }

-- ---- operators on literals

pub unary_literal : EachNodeHasItsValue → EachNodeHasItsSort → ValuesKeepSorts → (nodes : List TermNode) (op : UnOp) (c : ℕ) (v : Atom) → IsSome (sorts nodes)
    → IsTrue (fits_behind nodes (Unary op c)) → slice_get nodes c ≡ Some (Lit v) → IsSome (sort_of_unary op (scalar_of v)) × IsConstant nodes (Unary op c) (apply1 op v)
unary_literal law sorted keep nodes op c v ok fit is =
    let s = fits_some nodes (Unary op c) fit in
    let here = lit_sort sorted nodes c v ok is in
    let e : as_sort (sort_of_unary op (scalar_of v)) ≡ Some s.0 = ap (λ (o : Option Sort). unary_sort op (as_scalar o)) (sym here) ∙ (sym (behind_unary_is nodes op c ok) ∙ s.1) in
    let t = as_sort_is (sort_of_unary op (scalar_of v)) s.0 e in
    let kept = keep.unary op (AtomValue v) (scalar_of v) t.0 (literal_kept sorted nodes c v ok is) t.1 in (
      made_some (sort_of_unary op (scalar_of v)) t.0 t.1,
      record {
        sort = s.1 ∙ ap (λ (x : Sort). Some x) (t.2 ∙ ap (λ (r : Scalar). ScalarSort r) (sym (scalar_is (apply1 op v) t.0 kept)));
        value = λ a f. ap (unary_value op) (lit_value law a nodes c v ok is);
      },
    )

pub binary_literals : EachNodeHasItsValue → EachNodeHasItsSort → ValuesKeepSorts → (nodes : List TermNode) (op : BvOp) (l r : ℕ) (v w : Atom) → IsSome (sorts nodes)
    → IsTrue (fits_behind nodes (Binary op l r)) → slice_get nodes l ≡ Some (Lit v) → slice_get nodes r ≡ Some (Lit w)
    → IsSome (sort_of_binary op (scalar_of v) (scalar_of w)) × IsConstant nodes (Binary op l r) (apply op v w)
binary_literals law sorted keep nodes op l r v w ok fit left right =
    let s = fits_some nodes (Binary op l r) fit in
    let e : as_sort (sort_of_binary op (scalar_of v) (scalar_of w)) ≡ Some s.0 =
    ap (λ (o : Option Sort). binary_sort op (as_scalar o) (Some (scalar_of w))) (sym (lit_sort sorted nodes l v ok left))
    ∙ (ap (λ (o : Option Sort). binary_sort op (as_scalar (sort_at nodes l)) (as_scalar o)) (sym (lit_sort sorted nodes r w ok right)) ∙ (sym (behind_binary_is nodes op l r ok) ∙ s.1)) in
    let t = as_sort_is (sort_of_binary op (scalar_of v) (scalar_of w)) s.0 e in
    let kept = keep.binary op (AtomValue v) (AtomValue w) (scalar_of v) (scalar_of w) t.0 (literal_kept sorted nodes l v ok left) (literal_kept sorted nodes r w ok right) t.1 in (
      made_some (sort_of_binary op (scalar_of v) (scalar_of w)) t.0 t.1,
      record {
        sort = s.1 ∙ ap (λ (x : Sort). Some x) (t.2 ∙ ap (λ (r : Scalar). ScalarSort r) (sym (scalar_is (apply op v w) t.0 kept)));
        value = λ a f. ap (λ (x : Value). binary_value op x (value a nodes r)) (lit_value law a nodes l v ok left) ∙ ap (λ (x : Value). binary_value op (AtomValue v) x) (lit_value law a nodes r w ok right);
      },
    )

-- ---- ifs

pub record Branches (o p q : Option Sort) (s : Sort) : Type 0 where
  pub test : o ≡ Some bool_sort
  pub yes : p ≡ Some s
  pub no : q ≡ Some s

branches_by : (p q : Option Sort) (s : Sort) → branch_sort p q ≡ Some s → (p ≡ Some s) × (q ≡ Some s)
branches_by None q s h = cc
branches_by (Some p) None s h = cc
branches_by (Some p) (Some q) s h = by_test (same_sort p q) refl h
  where
    by_test : (b : Bool) → same_sort p q ≡ b → (if b then Some p else None) ≡ Some s → (Some p ≡ Some s) × (Some q ≡ Some s)
    by_test true e k = (k, ap (λ (x : Sort). Some x) (sym (same_sort_is p q e)) ∙ k)
    by_test false e k = cc

branches : (o p q : Option Sort) (s : Sort) → if_sort (as_scalar o) p q ≡ Some s → Branches o p q s
branches None p q s h = cc
branches (Some (ScalarSort BoolSort)) p q s h = let b = branches_by p q s h in record { test = refl; yes = b.0; no = b.1 }
branches (Some (ScalarSort (BvSort w))) p q s h = cc
branches (Some (MapSort i e)) p q s h = cc

pub if_is : (nodes : List TermNode) (c y n : ℕ) → IsSome (sorts nodes) → IsTrue (fits_behind nodes (If c y n))
    → (s : Sort) × (sort_behind nodes (If c y n) ≡ Some s) × Branches (sort_at nodes c) (sort_at nodes y) (sort_at nodes n) s
if_is nodes c y n ok fit =
    let s = fits_some nodes (If c y n) fit in
    (s.0, s.1, branches (sort_at nodes c) (sort_at nodes y) (sort_at nodes n) s.0 (sym (behind_if_is nodes c y n ok) ∙ s.1))

pub if_true : EachNodeHasItsValue → (nodes : List TermNode) (c y n : ℕ) (b : Bool) → IsSome (sorts nodes) → IsTrue (fits_behind nodes (If c y n)) → slice_get nodes c ≡ Some (Lit (BoolAtom b)) → b ≡ true
    → IsKnown nodes (If c y n) y
if_true law nodes c y n b ok fit there test =
    let is : slice_get nodes c ≡ Some (Lit (BoolAtom true)) = there ∙ ap (λ (x : Bool). Some (Lit (BoolAtom x))) test in
    let s = if_is nodes c y n ok fit in
    record { sort = s.2.yes ∙ sym s.1; value = λ a f. sym (ap (λ (v : Value). pick v (value a nodes y) (value a nodes n)) (lit_value law a nodes c (BoolAtom true) ok is)) }

pub if_false : EachNodeHasItsValue → (nodes : List TermNode) (c y n : ℕ) (b : Bool) → IsSome (sorts nodes) → IsTrue (fits_behind nodes (If c y n)) → slice_get nodes c ≡ Some (Lit (BoolAtom b)) → b ≡ false
    → IsKnown nodes (If c y n) n
if_false law nodes c y n b ok fit there test =
    let is : slice_get nodes c ≡ Some (Lit (BoolAtom false)) = there ∙ ap (λ (x : Bool). Some (Lit (BoolAtom x))) test in
    let s = if_is nodes c y n ok fit in
    record { sort = s.2.no ∙ sym s.1; value = λ a f. sym (ap (λ (v : Value). pick v (value a nodes y) (value a nodes n)) (lit_value law a nodes c (BoolAtom false) ok is)) }

pick_same : (t v : Value) → v ≡ pick t v v
pick_same t v = by_test (is_on t)
  where
    by_test : (b : Bool) → v ≡ (if b then v else v)
    by_test true = refl
    by_test false = refl

pub if_either : (nodes : List TermNode) (c y n : ℕ) → IsSome (sorts nodes) → IsTrue (fits_behind nodes (If c y n)) → y ≡ n → IsKnown nodes (If c y n) y
if_either nodes c y n ok fit same =
    let s = if_is nodes c y n ok fit in
    record { sort = s.2.yes ∙ sym s.1; value = λ a f. pick_same (value a nodes c) (value a nodes y) ∙ ap (λ (k : ℕ). pick (value a nodes c) (value a nodes y) (value a nodes k)) same }

pick_truth : (t : Value) (high low : Bool) → pick t (AtomValue (BoolAtom high)) (AtomValue (BoolAtom low)) ≡ AtomValue (BoolAtom (if is_on t then high else low))
pick_truth t high low = by_test (is_on t)
  where
    by_test : (b : Bool) → (if b then AtomValue (BoolAtom high) else AtomValue (BoolAtom low)) ≡ AtomValue (BoolAtom (if b then high else low))
    by_test true = refl
    by_test false = refl

pub if_truths : EachNodeHasItsValue → EachNodeHasItsSort → (nodes : List TermNode) (c y n : ℕ) (high low : Bool) → IsSome (sorts nodes) → IsTrue (fits_behind nodes (If c y n))
    → slice_get nodes y ≡ Some (Lit (BoolAtom high)) → slice_get nodes n ≡ Some (Lit (BoolAtom low)) → IsByTruth nodes (If c y n) c low high
if_truths law sorted nodes c y n high low ok fit one other =
    let s = if_is nodes c y n ok fit in
    record {
      bool = s.2.test;
      sort = s.1 ∙ (sym s.2.yes ∙ lit_sort sorted nodes y (BoolAtom high) ok one);
      value = λ a f. ap (λ (v : Value). pick (value a nodes c) v (value a nodes n)) (lit_value law a nodes y (BoolAtom high) ok one)
          ∙ (ap (λ (v : Value). pick (value a nodes c) (AtomValue (BoolAtom high)) v) (lit_value law a nodes n (BoolAtom low) ok other)
          ∙ pick_truth (value a nodes c) high low);
    }
