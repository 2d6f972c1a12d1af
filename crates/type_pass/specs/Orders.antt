-- An order of those nodes of a graph that lead to no circle.
use Rattle.std.specs.Prelude.{◌≡◌, ℕ, ◌<◌, ◌≤◌, Bool, true, false, nat_eq, List, [], ◌∷◌, ◌++◌, length, take, count_by}
use Rattle.std.specs.List.{list_any, list_all, slice_index_or}
use Rattle.type_pass.specs.Graphs.{Graph, edges}

abbrev pub is_in : List ℕ → ℕ → Bool
is_in ns c = list_any (nat_eq c) ns

-- all edges of each node lead to nodes that stand before it
abbrev pub Follows : Graph → List ℕ → List ℕ → Type 0
Follows g before [] = Unit {0}
Follows g before (n ∷ ns) = (list_all (is_in before) (edges g n) ≡ true) × Follows g (before ++ n ∷ []) ns

-- Each node stands after all to which its edges lead. A node that does not stand there has an edge to one that does not either, and so leads
-- to a circle.
pub record IsOrder (g : Graph) (ns : List ℕ) : Type 0 where
  pub few : length ns ≤ length g
  pub nodes : (c : ℕ) → is_in ns c ≡ true → c < length g
  pub follows : Follows g [] ns
  pub others : (i : ℕ) → i < length g → is_in ns i ≡ false → list_all (is_in ns) (edges g i) ≡ false

-- ---- while nodes are ordered

-- which nodes have their places, and how many edges of each have been passed
pub record IsSorting (g : Graph) (ns : List ℕ) (done : List Bool) (next : List ℕ) : Type 0 where
  pub flags : (c : ℕ) → slice_index_or done c false ≡ is_in ns c
  pub counted : count_by (λ b. b) done ≡ length ns
  pub size : length done ≡ length g
  pub sizes : length next ≡ length g
  pub follows : Follows g [] ns
  pub passed : (i : ℕ) → list_all (is_in ns) (take (slice_index_or next i 0) (edges g i)) ≡ true
  pub within : (i : ℕ) → slice_index_or next i 0 ≤ length (edges g i)

-- more nodes may have got places
pub record Grows (g : Graph) (old new : List ℕ) (done : List Bool) (next : List ℕ) : Type 0 where
  pub sound : IsSorting g new done next
  pub more : List ℕ
  pub grown : new ≡ old ++ more

-- where none of the nodes below the bound got a place, each has an edge to one without a place
abbrev pub AreStuck : Graph → ℕ → List ℕ → List ℕ → Type 0
AreStuck g bound old new = length new ≡ length old → (i : ℕ) → i < bound → i < length g → is_in new i ≡ false → list_all (is_in new) (edges g i) ≡ false

abbrev pub IsStuck : Graph → ℕ → List ℕ → List ℕ → Type 0
IsStuck g i old new = length new ≡ length old → i < length g → is_in new i ≡ false → list_all (is_in new) (edges g i) ≡ false
