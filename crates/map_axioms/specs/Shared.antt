-- Terms in which no two nodes are equal: a node is looked for before it is put behind the others. No public clause cites it.
use Rattle.std.specs.Prelude.{◌≡◌, ◌↔◌, ◌⊎◌, ℕ, Bool, List, [], ◌∷◌, ◌++◌, length, slice_get, Option, Some}
use Rattle.hy_term.specs.declared.node.TermNode.{TermNode}
use Rattle.hy_term.specs.contracts.node.TermNodePartialEq.TheImpl as equality

-- the test that the index goes by
abbrev pub same_node : TermNode → TermNode → Bool
same_node = (equality.ghosts).eq

-- what finds the number of each node
abbrev pub IsIndex : List TermNode → (TermNode → Option ℕ) → Type 0
IsIndex nodes find = (node : TermNode) (k : ℕ) → (find node ≡ Some k) ↔ (slice_get nodes k ≡ Some node)

-- t is the number of the node: that of an old one, or it stands behind those, which it does only where none of them is equal
pub record Shared (old : List TermNode) (node : TermNode) (new : List TermNode) (t : ℕ) : Type 0 where
  pub is : ((slice_get old t ≡ Some node) × (new ≡ old)) ⊎ ((t ≡ length old) × (new ≡ old ++ node ∷ []))
  pub once : (k : ℕ) → slice_get old k ≡ Some node → new ≡ old
