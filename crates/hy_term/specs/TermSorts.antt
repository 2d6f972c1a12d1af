-- The sorts of terms, and which nodes may stand behind others.
use Rattle.std.specs.Prelude.{◌≡◌, ℕ, nat_eq, Bool, true, false, ◌&&◌, List, [], ◌∷◌, ◌++◌, slice_get, Option, None, Some, is_some, if◌then◌else◌, IsTrue}
use Rattle.std.specs.Option.{option_and_then}
use Rattle.hy_val.specs.Sorts.{scalar_of, has_scalar}
use Rattle.hy_val.specs.NodeSorts.{is_sort, same_sort, as_scalar, unary_sort, binary_sort, if_sort, select_sort, store_sort}
use Rattle.hy_val.specs.declared.sort.ScalarKind.TheVariants.{Bool as BoolSort, Bv as BvSort}
use Rattle.hy_val.specs.declared.sort.Sort.{Sort}
use Rattle.hy_val.specs.declared.sort.SortKind.TheVariants.{Scalar as ScalarSort, Map as MapSort}
use Rattle.hy_term.specs.Formula.{Formula}
use Rattle.hy_term.specs.declared.node.TermNode.{TermNode}
use Rattle.hy_term.specs.declared.node.TermNode.TheVariants.{Lit, ZeroMap, Variable, Unary, Binary, If, Select, Store}

-- the sort where it is one: widths are 1 to 64
abbrev pub sort_if : Sort → Option Sort
sort_if sort = if is_sort sort then Some sort else None

-- the sort of a node, from those of the nodes before it; None where a child doesn't stand before it or the sorts don't fit
abbrev pub sort_of_node : List Sort → TermNode → Option Sort
sort_of_node known (Lit a) = if has_scalar a (scalar_of a) then Some (ScalarSort (scalar_of a)) else None
sort_of_node known (ZeroMap index elem) = sort_if (MapSort index elem)
sort_of_node known (Variable number sort) = sort_if sort
sort_of_node known (Unary op child) = unary_sort op (as_scalar (slice_get known child))
sort_of_node known (Binary op left right) = binary_sort op (as_scalar (slice_get known left)) (as_scalar (slice_get known right))
sort_of_node known (If test one other) = if_sort (as_scalar (slice_get known test)) (slice_get known one) (slice_get known other)
sort_of_node known (Select map index) = select_sort (slice_get known map) (as_scalar (slice_get known index))
sort_of_node known (Store map index value) = store_sort (slice_get known map) (as_scalar (slice_get known index)) (as_scalar (slice_get known value))

-- the sorts of all nodes, behind those that are known
abbrev pub sorts_onto : List Sort → List TermNode → Option (List Sort)
sorts_onto known [] = Some known
sorts_onto known (node ∷ nodes) = option_and_then (λ s. sorts_onto (known ++ s ∷ []) nodes) (sort_of_node known node)

-- the sorts of all nodes; None where children don't stand before their nodes or sorts don't fit
abbrev pub sorts : List TermNode → Option (List Sort)
sorts nodes = sorts_onto [] nodes

-- the sort of the node k
abbrev pub sort_at : List TermNode → ℕ → Option Sort
sort_at nodes k = option_and_then (λ ss. slice_get ss k) (sorts nodes)

-- the sort of a node behind these
abbrev pub sort_behind : List TermNode → TermNode → Option Sort
sort_behind nodes node = option_and_then (λ ss. sort_of_node ss node) (sorts nodes)

-- the sort that a node gives to the variable of this number, where it is one with it
abbrev pub named : ℕ → TermNode → Option Sort
named n (Lit a) = None
named n (ZeroMap index elem) = None
named n (Variable number sort) = if nat_eq number n then Some sort else None
named n (Unary op child) = None
named n (Binary op left right) = None
named n (If test one other) = None
named n (Select map index) = None
named n (Store map index value) = None

abbrev pub or_else : Option Sort → Option Sort → Option Sort
or_else None other = other
or_else (Some sort) other = Some sort

-- the sort of the variable of this number, by the first node with it
abbrev pub sort_of_number : ℕ → List TermNode → Option Sort
sort_of_number n [] = None
sort_of_number n (node ∷ nodes) = or_else (named n node) (sort_of_number n nodes)

-- no sort yet, or this one
abbrev pub free_or_same : Option Sort → Sort → Bool
free_or_same None sort = true
free_or_same (Some s) sort = same_sort s sort

-- a variable has the sort that its number has in the nodes, where one has it
abbrev pub variable_agrees : List TermNode → TermNode → Bool
variable_agrees nodes (Lit a) = true
variable_agrees nodes (ZeroMap index elem) = true
variable_agrees nodes (Variable number sort) = free_or_same (sort_of_number number nodes) sort
variable_agrees nodes (Unary op child) = true
variable_agrees nodes (Binary op left right) = true
variable_agrees nodes (If test one other) = true
variable_agrees nodes (Select map index) = true
variable_agrees nodes (Store map index value) = true

-- the node may stand behind these: its children are among them, the sorts fit, and that of a variable is the one of its number
abbrev pub fits_behind : List TermNode → TermNode → Bool
fits_behind nodes node = is_some (sort_behind nodes node) && variable_agrees nodes node

-- nodes with the same variable number have the same sort, also with those before
abbrev pub agree_onto : List TermNode → List TermNode → Bool
agree_onto before [] = true
agree_onto before (node ∷ nodes) = variable_agrees before node && agree_onto (before ++ node ∷ []) nodes

abbrev pub is_bool : Option Sort → Bool
is_bool None = false
is_bool (Some (ScalarSort BoolSort)) = true
is_bool (Some (ScalarSort (BvSort w))) = false
is_bool (Some (MapSort index elem)) = false

-- terms: children stand before their nodes, all sorts fit, nodes with the same variable number have the same sort, and the root is a bool
abbrev pub is_formula : Formula → Bool
is_formula f = is_bool (sort_at f.nodes f.root) && agree_onto [] f.nodes

-- terms, with the sorts of their nodes
pub record Sorted (f : Formula) (known : List Sort) : Type 0 where
  pub each : sorts f.nodes ≡ Some known
  pub agree : IsTrue (agree_onto [] f.nodes)
  pub root : IsTrue (is_bool (slice_get known f.root))

abbrev pub is_scalar_sort : Sort → Bool
is_scalar_sort (ScalarSort s) = true
is_scalar_sort (MapSort index elem) = false

-- the node is no map by itself, and reads none
abbrev pub is_plain : TermNode → Bool
is_plain (Lit a) = true
is_plain (ZeroMap index elem) = false
is_plain (Variable number sort) = is_scalar_sort sort
is_plain (Unary op child) = true
is_plain (Binary op left right) = true
is_plain (If test one other) = true
is_plain (Select map index) = false
is_plain (Store map index value) = false

-- there are no maps
abbrev pub are_plain : List TermNode → Bool
are_plain [] = true
are_plain (node ∷ nodes) = is_plain node && are_plain nodes
