-- Expressions: lists of nodes whose children stand before them, their sorts, and their evaluation by cases (This is Boogie 2).
use Rattle.std.specs.Prelude.{◌-◌, Bool, true, false, not, ◌&&◌, List, [], ◌∷◌, ◌++◌, length, slice_get, Option, None, Some, is_some, if◌then◌else◌}
use Rattle.std.specs.Option.{option_and_then}
use Rattle.hy_val.specs.Sorts.{scalar_of, has_scalar}
use Rattle.hy_val.specs.NodeSorts.{is_sort, as_scalar, unary_sort, binary_sort, if_sort, select_sort, store_sort}
use Rattle.hy_val.specs.Values.{has_sort, default, at, unary_value, binary_value, pick, select_value, store_value}
use Rattle.hy_val.specs.declared.sort.Sort.{Sort}
use Rattle.hy_val.specs.declared.sort.SortKind.TheVariants.{Scalar as ScalarSort}
use Rattle.hy_val.specs.declared.value.Value.{Value}
use Rattle.hy_val.specs.declared.value.Value.TheVariants.{Atom as AtomValue}
use Rattle.hy_val.specs.declared.expr.Var.{Var}
use Rattle.hy_val.specs.declared.expr.Var.TheVariants.{Const, Global, Local}
use Rattle.hy_val.specs.declared.expr.Env.{Env}
use Rattle.hy_val.specs.declared.expr.ExprNode.{ExprNode}
use Rattle.hy_val.specs.declared.expr.ExprNode.TheVariants.{Lit, Var as Read, Unary, Binary, If, Select, Store}

-- the sort of a node, from those of the nodes before it; None where a child doesn't stand before it or the sorts don't fit
abbrev pub sort_of_node : List Sort → ExprNode → Option Sort
sort_of_node known (Lit a) = if has_scalar a (scalar_of a) then Some (ScalarSort (scalar_of a)) else None
sort_of_node known (Read x sort) = if is_sort sort then Some sort else None
sort_of_node known (Unary op child) = unary_sort op (as_scalar (slice_get known child))
sort_of_node known (Binary op left right) = binary_sort op (as_scalar (slice_get known left)) (as_scalar (slice_get known right))
sort_of_node known (If test one other) = if_sort (as_scalar (slice_get known test)) (slice_get known one) (slice_get known other)
sort_of_node known (Select map index) = select_sort (slice_get known map) (as_scalar (slice_get known index))
sort_of_node known (Store map index value) = store_sort (slice_get known map) (as_scalar (slice_get known index)) (as_scalar (slice_get known value))

-- the sorts of all nodes, behind those that are known
abbrev pub sorts_onto : List Sort → List ExprNode → Option (List Sort)
sorts_onto known [] = Some known
sorts_onto known (node ∷ nodes) = option_and_then (λ s. sorts_onto (known ++ s ∷ []) nodes) (sort_of_node known node)

abbrev pub is_empty : List ExprNode → Bool
is_empty [] = true
is_empty (node ∷ nodes) = false

-- an expression: some nodes, whose children stand before them and whose sorts fit; the last is the whole
abbrev pub is_expr : List ExprNode → Bool
is_expr nodes = not (is_empty nodes) && is_some (sorts_onto [] nodes)

-- the value of a node, from those of the nodes before it, where variables are looked up
abbrev pub node_by : (Var → Value) → List Value → ExprNode → Value
node_by look known (Lit a) = AtomValue a
node_by look known (Read x sort) = look x
node_by look known (Unary op child) = unary_value op (at known child)
node_by look known (Binary op left right) = binary_value op (at known left) (at known right)
node_by look known (If test one other) = pick (at known test) (at known one) (at known other)
node_by look known (Select map index) = select_value (at known map) (at known index)
node_by look known (Store map index value) = store_value (at known map) (at known index) (at known value)

-- the values of all nodes, behind those that are known
abbrev pub values_by : (Var → Value) → List Value → List ExprNode → List Value
values_by look known [] = known
values_by look known (node ∷ nodes) = values_by look (known ++ node_by look known node ∷ []) nodes

-- the value of the last node
abbrev pub eval_by : (Var → Value) → List ExprNode → Value
eval_by look nodes = at (values_by look [] nodes) (length nodes - 1)

-- what an environment has for a variable
abbrev pub variable : Env → Var → Option Value
variable env (Const n) = slice_get env.consts n
variable env (Global n) = slice_get env.globals n
variable env (Local n) = slice_get env.locals n

abbrev pub read : Env → Var → Value
read env x = default (variable env x)

abbrev pub eval : Env → List ExprNode → Value
eval env nodes = eval_by (read env) nodes

-- the variable is there, with the sort
abbrev pub is_there : Option Value → Sort → Bool
is_there None sort = false
is_there (Some v) sort = has_sort v sort

abbrev pub node_reads : Env → ExprNode → Bool
node_reads env (Lit a) = true
node_reads env (Read x sort) = is_there (variable env x) sort
node_reads env (Unary op child) = true
node_reads env (Binary op left right) = true
node_reads env (If test one other) = true
node_reads env (Select map index) = true
node_reads env (Store map index value) = true

-- the variables of an expression are in the environment, with their sorts
abbrev pub reads : Env → List ExprNode → Bool
reads env [] = true
reads env (node ∷ nodes) = node_reads env node && reads env nodes
