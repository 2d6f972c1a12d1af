-- Whether a tree of calls is linked, as a test of its formulas.
use Rattle.std.specs.Prelude.{ℕ, zero, suc, Bool, true, false, ◌&&◌, List, length, slice_get, Option, None, Some, is_some, nat_eq, nat_lt}
use Rattle.hy_val.specs.NodeSorts.{same_sort}
use Rattle.hy_val.specs.declared.sort.Sort.{Sort}
use Rattle.hy_term.specs.TermSorts.{sorts, sort_at}
use Rattle.hy_term.specs.declared.node.TermNode.{TermNode}
use Rattle.hy_term.specs.declared.node.TermNode.TheVariants.{Lit, ZeroMap, Variable, Unary, Binary, If, Select, Store}
use Rattle.tree_terms.specs.declared.linked.Linked.{Linked}
use Rattle.tree_terms.specs.declared.linked.Source.{Source}
use Rattle.tree_terms.specs.declared.linked.Source.TheVariants.{Given, Up, Down, Fresh}
use Rattle.tree_terms.specs.Linked.{nodes_of, parent, source}

abbrev pub has_this : Option Sort → Sort → Bool
has_this None sort = false
has_this (Some s) sort = same_sort s sort

-- what comes from the caller m stands before its node j
abbrev pub comes_before : Linked → (c m j : ℕ) → Source → Bool
comes_before q c m j (Given t) = true
comes_before q c m j (Up i) = nat_eq (parent q c) m && nat_lt i j
comes_before q c m j (Down d i) = true
comes_before q c m j Fresh = true

abbrev pub node_before : Linked → (c m j : ℕ) → Option TermNode → Bool
node_before q c m j None = true
node_before q c m j (Some (Lit a)) = true
node_before q c m j (Some (ZeroMap index elem)) = true
node_before q c m j (Some (Variable number sort)) = comes_before q c m j (source q c number)
node_before q c m j (Some (Unary op child)) = true
node_before q c m j (Some (Binary op left right)) = true
node_before q c m j (Some (If test one other)) = true
node_before q c m j (Some (Select map index)) = true
node_before q c m j (Some (Store map index value)) = true

-- the same of the first k nodes
abbrev pub all_before : Linked → (c m j k : ℕ) → Bool
all_before q c m j zero = true
all_before q c m j (suc k) = all_before q c m j k && node_before q c m j (slice_get (nodes_of q c) k)

-- what stands in the place of the variable j of the node m has its sort, and stands where it may
abbrev pub source_fits : Linked → List TermNode → (m j : ℕ) → Sort → Source → Bool
source_fits q base m j sort (Given t) = has_this (sort_at base t) sort
source_fits q base m j sort (Up i) = nat_lt (parent q m) m && has_this (sort_at (nodes_of q (parent q m)) i) sort
source_fits q base m j sort (Down c i) =
    ((nat_lt m c && nat_lt c (length q.tree)) && has_this (sort_at (nodes_of q c) i) sort) && all_before q c m j (length (nodes_of q c))
source_fits q base m j sort Fresh = true

abbrev pub node_fits : Linked → List TermNode → (m j : ℕ) → TermNode → Bool
node_fits q base m j (Lit a) = true
node_fits q base m j (ZeroMap index elem) = true
node_fits q base m j (Variable number sort) = source_fits q base m j sort (source q m number)
node_fits q base m j (Unary op child) = true
node_fits q base m j (Binary op left right) = true
node_fits q base m j (If test one other) = true
node_fits q base m j (Select map index) = true
node_fits q base m j (Store map index value) = true

abbrev pub fits_if : Linked → List TermNode → (m j : ℕ) → Option TermNode → Bool
fits_if q base m j None = true
fits_if q base m j (Some node) = node_fits q base m j node

-- the first k nodes of the node m fit
abbrev pub nodes_fit : Linked → List TermNode → (m k : ℕ) → Bool
nodes_fit q base m zero = true
nodes_fit q base m (suc k) = nodes_fit q base m k && fits_if q base m k (slice_get (nodes_of q m) k)

-- the first n nodes of the tree fit
abbrev pub all_fit : Linked → List TermNode → ℕ → Bool
all_fit q base zero = true
all_fit q base (suc n) = all_fit q base n && (is_some (sorts (nodes_of q n)) && nodes_fit q base n (length (nodes_of q n)))
