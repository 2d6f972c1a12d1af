-- What is at hand where the word of a node is made: its sort, those of its children, and the bound on its gates.
use Rattle.std.proofs.Common.{◌≡◌, ℕ, zero, suc, ◌*◌, ◌<◌, ◌≤◌, Bool, true, false, List, [], ◌∷◌, length, take, refl, ap, sym, ◌∙◌, subst, arith}
use Rattle.std.specs.Prelude.{None, Some, slice_get, IsTrue, if◌then◌else◌}
use Rattle.std.proofs.Math.Nat.{mul-le-mul}
use Rattle.hy_val.specs.Sorts.{scalar_of, has_scalar}
use Rattle.hy_val.specs.NodeSorts.{is_sort}
use Rattle.hy_val.specs.Operators.{sort_of_unary, sort_of_binary}
use Rattle.hy_val.specs.declared.sort.Scalar.{Scalar}
use Rattle.hy_val.specs.declared.sort.ScalarKind.TheVariants.{Bool as BoolSort}
use Rattle.hy_val.specs.declared.sort.Sort.{Sort}
use Rattle.hy_val.specs.declared.sort.SortKind.TheVariants.{Scalar as ScalarSort, Map as MapSort}
use Rattle.hy_val.specs.declared.operator.UnOp.{UnOp}
use Rattle.hy_val.specs.declared.operator.BvOp.{BvOp}
use Rattle.hy_val.specs.declared.atom.Atom.{Atom}
use Rattle.hy_term.specs.Formula.{Formula}
use Rattle.hy_term.specs.TermSorts.{sort_of_node, sort_at, is_formula, is_scalar_sort, is_plain, are_plain}
use Rattle.hy_term.specs.Variables.{variables}
use Rattle.hy_term.specs.declared.node.TermNode.{TermNode}
use Rattle.hy_term.specs.declared.node.TermNode.TheVariants.{Lit, Variable, Unary, Binary, If}
use Rattle.gate_net.specs.declared.net.Net.{Net}
use Rattle.bit_blast.specs.Words.{Grows}
use Rattle.bit_blast.specs.Operations.{unary_gates, binary_gates, widths_fit}
use Rattle.bit_blast.specs.Blasted.{sort_width, input_count, width_of, reach}
use Rattle.bit_blast.specs.Standing.{TermLaws, CarriesNode, Stands}
use Rattle.bit_blast.proofs.Growing.{grows_within}
use Rattle.bit_blast.proofs.LowBits.{and_left, and_right}
use Rattle.bit_blast.proofs.Operating.{unary_few, binary_few}
use Rattle.bit_blast.proofs.Carrying.{Sorted, own_sort, get_taken, sort_is, Place, unary_sorts, binary_sorts, if_sorts}

never : (P : Type 0) → false ≡ true → P
never P h = absurd (let no : false ≡ true → ⊥ = λ y. cc in no h)

-- ---- each node is plain

plain_at : (nodes : List TermNode) (k : ℕ) (node : TermNode) → IsTrue (are_plain nodes) → slice_get nodes k ≡ Some node → IsTrue (is_plain node)
plain_at [] k node p at = absurd (let no : None ≡ Some node → ⊥ = λ y. cc in no at)
plain_at (n ∷ nodes) zero node p at = let same : n ≡ node = cc in subst (λ (m : TermNode). IsTrue (is_plain m)) same (and_left (is_plain n) (are_plain nodes) p)
plain_at (n ∷ nodes) (suc k) node p at = plain_at nodes k node (and_right (is_plain n) (are_plain nodes) p) at

-- a node with maps isn't
pub not_plain : (nodes : List TermNode) (k : ℕ) (node other : TermNode) → IsTrue (are_plain nodes) → slice_get nodes k ≡ Some node → node ≡ other → is_plain other ≡ false → ⊥
not_plain nodes k node other p at is off =
    let on : is_plain other ≡ true = subst (λ (m : TermNode). IsTrue (is_plain m)) is (plain_at nodes k node p at) in
    let bad : false ≡ true = sym off ∙ on in
    never ⊥ bad

scalar_by : (sort : Sort) → IsTrue (is_scalar_sort sort) → (u : Scalar) × (sort ≡ ScalarSort u)
scalar_by (ScalarSort u) h = (u, refl)
scalar_by (MapSort i e) h = never ((u : Scalar) × (MapSort i e ≡ ScalarSort u)) h

wide_by : (sort : Sort) → 0 < sort_width sort → (u : Scalar) × (sort ≡ ScalarSort u)
wide_by (ScalarSort u) h = (u, refl)
wide_by (MapSort i e) h = absurd (omega (arith, h))

-- the place of a node of a scalar sort
pub here : TermLaws → (f : Formula) (net : Net) (k : ℕ) (node other : TermNode) (sort : Sort) (u : Scalar) → IsTrue (is_formula f) → IsTrue (are_plain f.nodes) → slice_get f.nodes k ≡ Some node → node ≡ other
    → sort_at f.nodes k ≡ Some sort → IsTrue (is_sort sort) → sort ≡ ScalarSort u → net.inputs ≡ input_count (variables f.nodes) → Place f net k other u
here laws f net k node other sort u formula plain at is own fine scalar inputs = record {
  laws = laws;
  formula = formula;
  plain = plain;
  is = at ∙ ap (λ (n : TermNode). Some n) is;
  sort = own ∙ ap (λ (s : Sort). Some s) scalar;
  fine = subst (λ (s : Sort). IsTrue (is_sort s)) scalar fine;
  inputs = inputs;
}

-- ---- sorts of nodes and children

own_of : TermLaws → (f : Formula) (s : Sorted f.nodes) (k : ℕ) (node other : TermNode) (sort : Sort) → slice_get f.nodes k ≡ Some node → node ≡ other → sort_at f.nodes k ≡ Some sort
    → sort_of_node (take k s.all) other ≡ Some sort
own_of laws f s k node other sort at is own = own_sort laws f.nodes s k other sort (at ∙ ap (λ (n : TermNode). Some n) is) own

pub record UnaryReady (f : Formula) (s : Sorted f.nodes) (k : ℕ) (op : UnOp) (j : ℕ) (sort : Sort) : Type 0 where
  pub t : Scalar
  pub u : Scalar
  pub below : j < k
  pub operand : slice_get (take k s.all) j ≡ Some (ScalarSort t)
  pub result : sort_of_unary op t ≡ Some u
  pub whole : sort ≡ ScalarSort u

pub unary_ready : TermLaws → (f : Formula) (s : Sorted f.nodes) (k : ℕ) (node : TermNode) (op : UnOp) (j : ℕ) (sort : Sort) → slice_get f.nodes k ≡ Some node → node ≡ Unary op j → sort_at f.nodes k ≡ Some sort
    → UnaryReady f s k op j sort
unary_ready laws f s k node op j sort at is own =
    let r = unary_sorts op (slice_get (take k s.all) j) sort (own_of laws f s k node (Unary op j) sort at is own) in
    record { t = r.t; u = r.u; below = (get_taken s.all k j (ScalarSort r.t) r.operand).0; operand = r.operand; result = r.result; whole = r.whole }

pub record BinaryReady (f : Formula) (s : Sorted f.nodes) (k : ℕ) (op : BvOp) (i j : ℕ) (sort : Sort) : Type 0 where
  pub t : Scalar
  pub t' : Scalar
  pub u : Scalar
  pub left_below : i < k
  pub right_below : j < k
  pub left : slice_get (take k s.all) i ≡ Some (ScalarSort t)
  pub right : slice_get (take k s.all) j ≡ Some (ScalarSort t')
  pub result : sort_of_binary op t t' ≡ Some u
  pub whole : sort ≡ ScalarSort u

pub binary_ready : TermLaws → (f : Formula) (s : Sorted f.nodes) (k : ℕ) (node : TermNode) (op : BvOp) (i j : ℕ) (sort : Sort) → slice_get f.nodes k ≡ Some node → node ≡ Binary op i j → sort_at f.nodes k ≡ Some sort
    → BinaryReady f s k op i j sort
binary_ready laws f s k node op i j sort at is own =
    let r = binary_sorts op (slice_get (take k s.all) i) (slice_get (take k s.all) j) sort (own_of laws f s k node (Binary op i j) sort at is own) in
    record {
      t = r.t;
      t' = r.t';
      u = r.u;
      left_below = (get_taken s.all k i (ScalarSort r.t) r.left).0;
      right_below = (get_taken s.all k j (ScalarSort r.t') r.right).0;
      left = r.left;
      right = r.right;
      result = r.result;
      whole = r.whole;
    }

pub record IfReady (f : Formula) (s : Sorted f.nodes) (k h i j : ℕ) (sort : Sort) : Type 0 where
  pub cond_below : h < k
  pub one_below : i < k
  pub other_below : j < k
  pub cond : slice_get (take k s.all) h ≡ Some (ScalarSort BoolSort)
  pub one : slice_get (take k s.all) i ≡ Some sort
  pub other : slice_get (take k s.all) j ≡ Some sort

pub if_ready : TermLaws → (f : Formula) (s : Sorted f.nodes) (k : ℕ) (node : TermNode) (h i j : ℕ) (sort : Sort) → slice_get f.nodes k ≡ Some node → node ≡ If h i j → sort_at f.nodes k ≡ Some sort
    → IfReady f s k h i j sort
if_ready laws f s k node h i j sort at is own =
    let r = if_sorts (slice_get (take k s.all) h) (slice_get (take k s.all) i) (slice_get (take k s.all) j) sort (own_of laws f s k node (If h i j) sort at is own) in
    record {
      cond_below = (get_taken s.all k h (ScalarSort BoolSort) r.cond).0;
      one_below = (get_taken s.all k i sort r.one).0;
      other_below = (get_taken s.all k j sort r.other).0;
      cond = r.cond;
      one = r.one;
      other = r.other;
    }

-- a choice between words is no map
pub if_scalar : (f : Formula) (net : Net) (words : List (List ℕ)) (s : Sorted f.nodes) (k h i j : ℕ) (sort : Sort) (ws : List ℕ) → IfReady f s k h i j sort → Stands f.nodes net words → slice_get words i ≡ Some ws
    → (u : Scalar) × (sort ≡ ScalarSort u)
if_scalar f net words s k h i j sort ws r stands at =
    let carries : CarriesNode f.nodes net i ws = stands.each i ws at in
    let own : sort_at f.nodes i ≡ Some sort = sort_is f.nodes s i ∙ (get_taken s.all k i sort r.one).1 in
    let width : length ws ≡ sort_width sort = carries.wires.width ∙ ap width_of own in
    wide_by sort (omega (arith, width, carries.some))

lit_by : (b : Bool) (x : Atom) (sort : Sort) → (if b then Some (ScalarSort (scalar_of x)) else None) ≡ Some sort → sort ≡ ScalarSort (scalar_of x)
lit_by true x sort h = cc
lit_by false x sort h = absurd (let no : None ≡ Some sort → ⊥ = λ y. cc in no h)

pub lit_sort : TermLaws → (f : Formula) (s : Sorted f.nodes) (k : ℕ) (node : TermNode) (x : Atom) (sort : Sort) → slice_get f.nodes k ≡ Some node → node ≡ Lit x → sort_at f.nodes k ≡ Some sort
    → sort ≡ ScalarSort (scalar_of x)
lit_sort laws f s k node x sort at is own = lit_by (has_scalar x (scalar_of x)) x sort (own_of laws f s k node (Lit x) sort at is own)

same_by : (b : Bool) (t sort : Sort) → (if b then Some t else None) ≡ Some sort → sort ≡ t
same_by true t sort h = cc
same_by false t sort h = absurd (let no : None ≡ Some sort → ⊥ = λ y. cc in no h)

-- the sort of a variable, and that it is a scalar
pub variable_sort : TermLaws → (f : Formula) (s : Sorted f.nodes) (k : ℕ) (node : TermNode) (number : ℕ) (t sort : Sort) → IsTrue (are_plain f.nodes) → slice_get f.nodes k ≡ Some node → node ≡ Variable number t
    → sort_at f.nodes k ≡ Some sort → (u : Scalar) × (sort ≡ ScalarSort u) × (t ≡ ScalarSort u)
variable_sort laws f s k node number t sort plain at is own =
    let same : sort ≡ t = same_by (is_sort t) t sort (own_of laws f s k node (Variable number t) sort at is own) in
    let r = scalar_by t (plain_at f.nodes k (Variable number t) plain (at ∙ ap (λ (n : TermNode). Some n) is)) in
    (r.0, same ∙ r.1, r.1)

-- ---- how many gates

square : (v m x : ℕ) → v ≤ m → x ≤ 64 * (v * v) → x ≤ 64 * (m * m)
square v m x le few = let more : v * v ≤ m * m = mul-le-mul le le in omega (arith, few, more)

pub unary_bound : (nodes : List TermNode) (net net' : Net) (k : ℕ) (node : TermNode) (op : UnOp) (j : ℕ) (ws : List ℕ) → node ≡ Unary op j → CarriesNode nodes net j ws → Grows net net' (unary_gates op (length ws))
    → Grows net net' (64 * (reach nodes k node * reach nodes k node))
unary_bound nodes net net' k node op j ws is carries grows =
    subst (λ (n : TermNode). Grows net net' (64 * (reach nodes k n * reach nodes k n))) (sym is)
    (grows_within grows (square (length ws) (reach nodes k (Unary op j)) (unary_gates op (length ws)) (omega (arith, carries.wires.width)) (unary_few op (length ws) carries.some)))

pub binary_bound : (nodes : List TermNode) (net net' : Net) (k : ℕ) (node : TermNode) (op : BvOp) (i j : ℕ) (ws us : List ℕ) → node ≡ Binary op i j → CarriesNode nodes net i ws
    → IsTrue (widths_fit op (length ws) (length us)) → Grows net net' (binary_gates op (length ws) (length us)) → Grows net net' (64 * (reach nodes k node * reach nodes k node))
binary_bound nodes net net' k node op i j ws us is carries fit grows =
    subst (λ (n : TermNode). Grows net net' (64 * (reach nodes k n * reach nodes k n))) (sym is)
    (grows_within grows (square (length ws) (reach nodes k (Binary op i j)) (binary_gates op (length ws) (length us)) (omega (arith, carries.wires.width)) (binary_few op (length ws) (length us) carries.some fit)))

one_square : (w : ℕ) → 0 < w → w ≤ 64 * (w * w)
one_square zero h = omega arith
one_square (suc w) h = omega arith

pub if_bound : (nodes : List TermNode) (net net' : Net) (k : ℕ) (node : TermNode) (h i j : ℕ) (ws : List ℕ) → node ≡ If h i j → CarriesNode nodes net i ws → Grows net net' (length ws)
    → Grows net net' (64 * (reach nodes k node * reach nodes k node))
if_bound nodes net net' k node h i j ws is carries grows =
    subst (λ (n : TermNode). Grows net net' (64 * (reach nodes k n * reach nodes k n))) (sym is)
    (grows_within grows (square (length ws) (reach nodes k (If h i j)) (length ws) (omega (arith, carries.wires.width)) (one_square (length ws) carries.some)))
