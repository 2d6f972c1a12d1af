-- The variables that are known in a place, by number and sort, and the expressions and assignments that fit there (This is Boogie 2, typing of
-- expressions and commands).
use Rattle.std.specs.Prelude.{ℕ, ◌+◌, ◌-◌, ◌^◌, Bool, true, false, ◌&&◌, nat_lt, nat_le, List, [], ◌∷◌, length, slice_get, Option, None, Some}
use Rattle.std.specs.Option.{option_and_then}
use Rattle.std.specs.List.{list_all}
use Rattle.hy_val.specs.Exprs.{sorts_onto}
use Rattle.hy_val.specs.NodeSorts.{same_sort}
use Rattle.hy_val.specs.declared.expr.ExprNode.{ExprNode}
use Rattle.hy_val.specs.declared.expr.ExprNode.TheVariants.{Lit, Var as Read, Unary, Binary, If, Select, Store}
use Rattle.hy_val.specs.declared.expr.Var.{Var}
use Rattle.hy_val.specs.declared.expr.Var.TheVariants.{Const, Global, Local}
use Rattle.hy_val.specs.declared.sort.ScalarKind.TheVariants.{Bool as BoolSort}
use Rattle.hy_val.specs.declared.sort.Sort.{Sort}
use Rattle.hy_val.specs.declared.sort.SortKind.TheVariants.{Scalar as ScalarSort}

-- ---- numbers of 32 bits

-- numbers of 32 bits name so many
abbrev pub are_numbered : ℕ → Bool
are_numbered count = nat_lt count (2 ^ 32)

-- each is below a bound, and they ascend
abbrev pub ascend_from : ℕ → ℕ → List ℕ → Bool
ascend_from least bound [] = true
ascend_from least bound (n ∷ ns) = nat_le least n && (nat_lt n bound && ascend_from (n + 1) bound ns)

-- ---- variables

-- the sorts of the variables of each kind, by number
pub record Scope : Type 0 where
  pub consts : List Sort
  pub globals : List Sort
  pub locals : List Sort

abbrev pub sort_of_variable : Scope → Var → Option Sort
sort_of_variable scope (Const n) = slice_get scope.consts n
sort_of_variable scope (Global n) = slice_get scope.globals n
sort_of_variable scope (Local n) = slice_get scope.locals n

-- a constant is no target
abbrev pub sort_of_target : Scope → Var → Option Sort
sort_of_target scope (Const n) = None
sort_of_target scope (Global n) = slice_get scope.globals n
sort_of_target scope (Local n) = slice_get scope.locals n

abbrev pub is_sort_of : Option Sort → Sort → Bool
is_sort_of None sort = false
is_sort_of (Some found) sort = same_sort found sort

abbrev pub are_same : Option Sort → Option Sort → Bool
are_same None other = false
are_same (Some sort) other = is_sort_of other sort

-- ---- expressions

-- a variable of an expression is known with its sort
abbrev pub node_fits : Scope → ExprNode → Bool
node_fits scope (Lit a) = true
node_fits scope (Read x sort) = is_sort_of (sort_of_variable scope x) sort
node_fits scope (Unary op child) = true
node_fits scope (Binary op left right) = true
node_fits scope (If test one other) = true
node_fits scope (Select map index) = true
node_fits scope (Store map index value) = true

-- the sort of the last node, where the nodes are an expression
abbrev pub sort_of_expr : List ExprNode → Option Sort
sort_of_expr nodes = option_and_then (λ sorts. slice_get sorts (length nodes - 1)) (sorts_onto [] nodes)

-- an expression over known variables, of this sort
abbrev pub expr_fits : Scope → Option Sort → List ExprNode → Bool
expr_fits scope sort nodes = list_all (node_fits scope) nodes && are_same (sort_of_expr nodes) sort

abbrev pub is_condition : Scope → List ExprNode → Bool
is_condition scope nodes = expr_fits scope (Some (ScalarSort BoolSort)) nodes

-- ---- targets

abbrev pub is_target : Scope → Var → Bool
is_target scope x = are_same (sort_of_target scope x) (sort_of_target scope x)

abbrev pub pair_fits : Scope → Var × List ExprNode → Bool
pair_fits scope pair = expr_fits scope (sort_of_target scope pair.0) pair.1
