-- Lists of nodes of terms in the making.
use Rattle.std.specs.Prelude.{◌≡◌, ℕ, false, List, [], ◌∷◌, ◌++◌, length, Option, None, Some, if◌then◌else◌, IsTrue}
use Rattle.hy_term.specs.Formula.{Formula}
use Rattle.hy_term.specs.TermSorts.{fits_behind, is_bool, sort_at}
use Rattle.hy_term.specs.declared.node.TermNode.{TermNode}

-- the node stands behind the others, with the next number
pub record Added (old : List TermNode) (node : TermNode) (new : List TermNode) (n : ℕ) : Type 0 where
  pub fits : IsTrue (fits_behind old node)
  pub nodes : new ≡ old ++ node ∷ []
  pub number : n ≡ length old

-- it is added where it fits, else nothing has changed
abbrev pub Tried : List TermNode → TermNode → List TermNode → Option ℕ → Type 0
Tried old node new (Some n) = Added old node new n
Tried old node new None = (fits_behind old node ≡ false) × (new ≡ old)

-- the terms whose root is the node of a number, where that is a bool
abbrev pub with_root : List TermNode → ℕ → Option Formula
with_root nodes root = if is_bool (sort_at nodes root) then Some (record { nodes = nodes; root = root }) else None
