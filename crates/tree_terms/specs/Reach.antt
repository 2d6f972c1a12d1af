-- Bools that say which nodes are reached.
use Rattle.std.specs.Prelude.{◌≡◌, ℕ, zero, suc, ◌<◌, Bool, true, ◌&&◌, List, length, slice_index, IsSome, IsTrue}
use Rattle.hy_val.specs.declared.value.Value.{Value}
use Rattle.hy_term.specs.TermSorts.{sorts}
use Rattle.hy_term.specs.Meaning.{fits, Grows}
use Rattle.hy_term.specs.Variables.{below}
use Rattle.hy_term.specs.declared.node.TermNode.{TermNode}
use Rattle.tree_terms.specs.declared.linked.Linked.{Linked}
use Rattle.tree_terms.specs.Linked.{parent, site_of, node_by}
use Rattle.tree_terms.specs.Tables.{row}
use Rattle.tree_terms.specs.Rules.{IsBool, bit}

-- the copy of the caller's node that says that the site of a node is passed
abbrev pub site_term : Linked → List (List ℕ) → ℕ → ℕ
site_term q places m = slice_index (row places (parent q m)) (node_by (site_of q m))

-- a node is reached where its parent is and its site is passed
abbrev pub reach_by : Linked → List (List ℕ) → List ℕ → (ℕ → Bool) → ℕ → Bool
reach_by q places reach v zero = true
reach_by q places reach v (suc m) = v (slice_index reach (parent q (suc m))) && v (site_term q places (suc m))

-- the parents of nodes stand before them, and their sites' bits are there
pub record SitesFit (q : Linked) (into : List TermNode) (places : List (List ℕ)) : Type 0 where
  pub count : length places ≡ length q.tree
  pub up : (m : ℕ) → suc m < length q.tree → parent q (suc m) < suc m
  pub there : (m : ℕ) → suc m < length q.tree → node_by (site_of q (suc m)) < length (row places (parent q (suc m)))
  pub bool : (m : ℕ) → suc m < length q.tree → IsBool into (site_term q places (suc m))

pub record IsAlways (into : List TermNode) (t : ℕ) : Type 0 where
  pub bool : IsBool into t
  pub on : (a : ℕ → Value) → IsTrue (fits a into) → bit a into t ≡ true

-- the first nodes have their bools
pub record ReachTo (q : Linked) (places : List (List ℕ)) (old new : List TermNode) (reach : List ℕ) (k : ℕ) : Type 0 where
  pub grows : Grows old new
  pub sorted : IsSome (sorts new)
  pub fit : (a : ℕ → Value) → IsTrue (fits a old) → IsTrue (fits a new)
  pub low : (k : ℕ) → IsTrue (below k old) → IsTrue (below k new)
  pub count : length reach ≡ k
  pub bools : (m : ℕ) → m < k → IsBool new (slice_index reach m)
  pub says : (a : ℕ → Value) → IsTrue (fits a new) → (m : ℕ) → m < k → bit a new (slice_index reach m) ≡ reach_by q places reach (bit a new) m
