-- Finding a node by its hash. No public clause cites it.
use Rattle.std.specs.Prelude.{◌≡◌, ℕ, Bool, List, slice_get, Option, Some}
use Rattle.hy_term.specs.declared.node.TermNode.{TermNode}
use Rattle.hy_term.specs.contracts.node.TermNodePartialEq.TheImpl as equality

-- the test that the index goes by
abbrev pub same_node : TermNode → TermNode → Bool
same_node = (equality.ghosts).eq

-- what is found is the number of an equal node
abbrev pub AreFound : List TermNode → (TermNode → Option ℕ) → Type 0
AreFound nodes find = (node : TermNode) (k : ℕ) → find node ≡ Some k → slice_get nodes k ≡ Some node
