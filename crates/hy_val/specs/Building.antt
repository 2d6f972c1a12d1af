-- Lists of nodes in the making, and their sorts.
use Rattle.std.specs.Prelude.{◌≡◌, ℕ, ◌-◌, ◌<◌, List, [], ◌∷◌, ◌++◌, length, Option, None, Some, slice_get, IsSome}
use Rattle.std.specs.Option.{option_and_then}
use Rattle.hy_val.specs.Exprs.{sort_of_node, sorts_onto}
use Rattle.hy_val.specs.declared.sort.Sort.{Sort}
use Rattle.hy_val.specs.declared.expr.ExprNode.{ExprNode}

-- the sorts of all nodes; None where a child doesn't stand before its node, or the sorts don't fit
abbrev pub sorts_of : List ExprNode → Option (List Sort)
sorts_of nodes = sorts_onto [] nodes

-- the sort of the node of a number
abbrev pub sort_at : List ExprNode → ℕ → Option Sort
sort_at nodes number = option_and_then (λ sorts. slice_get sorts number) (sorts_of nodes)

-- the sort of the last node, which is the whole
abbrev pub whole_sort : List ExprNode → Option Sort
whole_sort nodes = sort_at nodes (length nodes - 1)

-- the sort that a node would have behind the others
abbrev pub sort_next : List ExprNode → ExprNode → Option Sort
sort_next nodes node = option_and_then (λ sorts. sort_of_node sorts node) (sorts_of nodes)

-- the node stands behind the others, with the next number and a sort that fits
pub record Added (old : List ExprNode) (node : ExprNode) (new : List ExprNode) (n : ℕ) : Type 0 where
  pub nodes : new ≡ old ++ node ∷ []
  pub number : n ≡ length old
  pub fits : IsSome (sort_next old node)
  pub sort : sort_at new n ≡ sort_next old node
  pub others : (k : ℕ) → k < length old → sort_at new k ≡ sort_at old k

-- it is added where it fits, else nothing has changed
abbrev pub Tried : List ExprNode → ExprNode → List ExprNode → Option ℕ → Type 0
Tried old node new (Some n) = Added old node new n
Tried old node new None = (sort_next old node ≡ None) × (new ≡ old)
