-- Which nodes of a graph lie on circles, while that is found.
use Rattle.std.specs.Prelude.{◌≡◌, ℕ, suc, ◌<◌, Bool, true, false, List, ◌++◌, length, count_by}
use Rattle.std.specs.List.{list_all, slice_index_or}
use Rattle.type_pass.specs.Graphs.{Graph, edges, leads}
use Rattle.type_pass.specs.Orders.{is_in}

-- edges lead to nodes of the graph
abbrev pub IsClosed : Graph → Type 0
IsClosed g = (i c : ℕ) → is_in (edges g i) c ≡ true → c < length g

-- which nodes are found
pub record IsFlagged (g : Graph) (found : List ℕ) (seen : List Bool) : Type 0 where
  pub flags : (c : ℕ) → slice_index_or seen c false ≡ is_in found c
  pub counted : count_by (λ b. b) seen ≡ length found
  pub size : length seen ≡ length g

-- all nodes to which edges lead from one are found, and no others more
pub record Reaches (g : Graph) (from : ℕ) (old new : List ℕ) (seen : List Bool) : Type 0 where
  pub flagged : IsFlagged g new seen
  pub more : List ℕ
  pub grown : new ≡ old ++ more
  pub all : list_all (is_in new) (edges g from) ≡ true
  pub only : list_all (is_in (edges g from)) more ≡ true

-- a node is found
pub record Adds (g : Graph) (node : ℕ) (old new : List ℕ) (seen : List Bool) : Type 0 where
  pub flagged : IsFlagged g new seen
  pub more : List ℕ
  pub grown : new ≡ old ++ more
  pub here : is_in new node ≡ true
  pub only : (c : ℕ) → is_in more c ≡ true → c ≡ node

-- the first edges of one node are found
pub record Reaching (g : Graph) (es old new : List ℕ) (seen : List Bool) (passed : List ℕ) : Type 0 where
  pub flagged : IsFlagged g new seen
  pub more : List ℕ
  pub grown : new ≡ old ++ more
  pub all : list_all (is_in new) passed ≡ true
  pub only : list_all (is_in es) more ≡ true

-- while nodes are found: each is reached by no more edges than its place, and the edges of those before the head are found
pub record Searching (g : Graph) (node head : ℕ) (found : List ℕ) (seen : List Bool) : Type 0 where
  pub flagged : IsFlagged g found seen
  pub sound : (p : ℕ) → p < length found → leads (suc p) g node (slice_index_or found p 0) ≡ true
  pub start : list_all (is_in found) (edges g node) ≡ true
  pub passed : (p : ℕ) → p < head → p < length found → list_all (is_in found) (edges g (slice_index_or found p 0)) ≡ true
