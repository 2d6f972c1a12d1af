-- Laws of values and of evaluation, each proved by a public function that does nothing.
use Rattle.std.specs.Prelude.{◌≡◌, ℕ, Bool, true, ◌&&◌, nat_lt, List, [], ◌∷◌, map, Some, slice_get, IsTrue, IsSome}
use Rattle.hy_val.specs.Sorts.{is_scalar, has_scalar}
use Rattle.hy_val.specs.Table.{Table}
use Rattle.hy_val.specs.Maps.{is_map, stored, WritesAt}
use Rattle.hy_val.specs.NodeSorts.{is_sort}
use Rattle.hy_val.specs.Operators.{sort_of_unary, sort_of_binary}
use Rattle.hy_val.specs.Values.{zero_of, has_sort, at, unary_value, binary_value, pick, select_value, store_value}
use Rattle.hy_val.specs.Exprs.{eval, node_by, values_by, eval_by, read, reads}
use Rattle.hy_val.specs.Scope.{Scope, expr_fits}
use Rattle.hy_val.specs.Stores.{have_sorts}
use Rattle.hy_val.specs.Building.{sorts_of, sort_at}
use Rattle.hy_val.specs.declared.sort.Scalar.{Scalar}
use Rattle.hy_val.specs.declared.sort.Sort.{Sort}
use Rattle.hy_val.specs.declared.sort.SortKind.TheVariants.{Scalar as ScalarSort, Map as MapSort}
use Rattle.hy_val.specs.declared.atom.Atom.{Atom}
use Rattle.hy_val.specs.declared.operator.UnOp.{UnOp}
use Rattle.hy_val.specs.declared.operator.BvOp.{BvOp}
use Rattle.hy_val.specs.declared.value.Value.{Value}
use Rattle.hy_val.specs.declared.expr.Var.{Var}
use Rattle.hy_val.specs.declared.expr.Env.{Env}
use Rattle.hy_val.specs.declared.expr.ExprNode.{ExprNode}
use Rattle.hy_val.specs.declared.expr.ExprNode.TheVariants.{Lit, Var as Read, Unary, Binary, If, Select, Store}

-- a map with an entry written into it is one, and differs there alone
abbrev pub StoresWriteAtOne : Type 0
StoresWriteAtOne =
    (m : Table) (i v : Atom) → IsTrue (is_map m) → IsTrue (has_scalar i m.index) → IsTrue (has_scalar v m.elem)
    → IsTrue (is_map (stored m i v)) × WritesAt m (stored m i v) i v

-- what nodes make of values of their sorts has the sort of the result; so has zero
pub record ValuesKeepSorts : Type 0 where
  pub zero : (s : Sort) → IsTrue (is_sort s) → IsTrue (has_sort (zero_of s) s)
  pub unary : (op : UnOp) (v : Value) (s t : Scalar) → IsTrue (has_sort v (ScalarSort s)) → sort_of_unary op s ≡ Some t → IsTrue (has_sort (unary_value op v) (ScalarSort t))
  pub binary : (op : BvOp) (v w : Value) (r s t : Scalar) → IsTrue (has_sort v (ScalarSort r)) → IsTrue (has_sort w (ScalarSort s)) → sort_of_binary op r s ≡ Some t
      → IsTrue (has_sort (binary_value op v w) (ScalarSort t))
  pub choice : (test v w : Value) (s : Sort) → IsTrue (has_sort v s) → IsTrue (has_sort w s) → IsTrue (has_sort (pick test v w) s)
  pub entry : (m i : Value) (index elem : Scalar) → IsTrue (is_scalar elem) → IsTrue (has_sort m (MapSort index elem)) → IsTrue (has_sort (select_value m i) (ScalarSort elem))
  pub map : (m i v : Value) (index elem : Scalar) → IsTrue (has_sort m (MapSort index elem)) → IsTrue (has_sort i (ScalarSort index)) → IsTrue (has_sort v (ScalarSort elem))
      → IsTrue (has_sort (store_value m i v) (MapSort index elem))

-- the node's children have numbers below n
abbrev pub is_above_children : ℕ → ExprNode → Bool
is_above_children n (Lit a) = true
is_above_children n (Read x sort) = true
is_above_children n (Unary op child) = nat_lt child n
is_above_children n (Binary op left right) = nat_lt left n && nat_lt right n
is_above_children n (If test one other) = nat_lt test n && nat_lt one n && nat_lt other n
is_above_children n (Select map index) = nat_lt map n && nat_lt index n
is_above_children n (Store map index value) = nat_lt map n && nat_lt index n && nat_lt value n

-- where the sorts fit, children have lower numbers than their node
abbrev pub ChildrenAreLower : Type 0
ChildrenAreLower = (nodes : List ExprNode) (n : ℕ) (node : ExprNode) → IsSome (sorts_of nodes) → slice_get nodes n ≡ Some node → IsTrue (is_above_children n node)

-- the value of the node of a number
abbrev pub value_at : (Var → Value) → List ExprNode → ℕ → Value
value_at look nodes n = at (values_by look [] nodes) n

-- the value of each node is that by cases, from the values of its children
abbrev pub EachNodeByCases : Type 0
EachNodeByCases =
    (look : Var → Value) (nodes : List ExprNode) (n : ℕ) (node : ExprNode) → IsSome (sorts_of nodes) → slice_get nodes n ≡ Some node
    → value_at look nodes n ≡ node_by look (values_by look [] nodes) node

-- the value of each node is one of its sort, where the variables have theirs
abbrev pub EachNodeHasItsSort : Type 0
EachNodeHasItsSort =
    (env : Env) (nodes : List ExprNode) (n : ℕ) (sort : Sort) → IsTrue (reads env nodes) → sort_at nodes n ≡ Some sort → IsTrue (has_sort (value_at (read env) nodes n) sort)

-- both have one value for each variable that stands in the nodes
abbrev pub AgreeOn : (Var → Value) → (Var → Value) → List ExprNode → Type 0
AgreeOn look other [] = Unit {0}
AgreeOn look other (Read x sort ∷ nodes) = (look x ≡ other x) × AgreeOn look other nodes
AgreeOn look other (node ∷ nodes) = AgreeOn look other nodes

-- the value depends on the variables that stand in the nodes alone
abbrev pub OnlyVariablesMatter : Type 0
OnlyVariablesMatter = (look other : Var → Value) (nodes : List ExprNode) → AgreeOn look other nodes → eval_by look nodes ≡ eval_by other nodes

-- the node with its variable renamed
abbrev pub renamed : (Var → Var) → ExprNode → ExprNode
renamed f (Lit a) = Lit a
renamed f (Read x sort) = Read (f x) sort
renamed f (Unary op child) = Unary op child
renamed f (Binary op left right) = Binary op left right
renamed f (If test one other) = If test one other
renamed f (Select map index) = Select map index
renamed f (Store map index value) = Store map index value

-- renaming keeps the sorts, and the value where the new names are looked up
pub record RenamingKeeps (f : Var → Var) (look : Var → Value) (nodes : List ExprNode) : Type 0 where
  pub sorts : sorts_of (map (renamed f) nodes) ≡ sorts_of nodes
  pub value : eval_by look (map (renamed f) nodes) ≡ eval_by (λ x. look (f x)) nodes

abbrev pub RenamingKeepsAll : Type 0
RenamingKeepsAll = (f : Var → Var) (look : Var → Value) (nodes : List ExprNode) → RenamingKeeps f look nodes

-- an expression that fits can be evaluated where each variable of the scope has a value of its sort, and its value has the sort that it should have
abbrev pub FittingExpressionsHaveTheirSorts : Type 0
FittingExpressionsHaveTheirSorts =
    (scope : Scope) (env : Env) → have_sorts env.consts scope.consts ≡ true → have_sorts env.globals scope.globals ≡ true → have_sorts env.locals scope.locals ≡ true
    → (s : Sort) (nodes : List ExprNode) → expr_fits scope (Some s) nodes ≡ true
    → (reads env nodes ≡ true) × (has_sort (eval env nodes) s ≡ true)
