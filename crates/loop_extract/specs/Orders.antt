-- The order of edges: by block, and then by place.
use Rattle.std.specs.Prelude.{◌≡◌, ℕ, ◌<◌, ◌≤◌, ◌&&◌, ◌||◌, nat_eq, nat_lt, Bool, true, false, List, [], ◌∷◌, length, slice_get, Some}
use Rattle.std.specs.List.{list_all}
use Rattle.extract_def.specs.declared.edge.Edge.{Edge}

-- the edge stands before that from a place of a block
abbrev pub is_before : ℕ → ℕ → Edge → Bool
is_before block place e = nat_lt e.block block || (nat_eq e.block block && nat_lt e.place place)

-- each edge stands before those behind it
abbrev pub are_ordered : List Edge → Bool
are_ordered [] = true
are_ordered (e ∷ es) = list_all (λ x. is_before x.block x.place e) es && are_ordered es

-- the edges before the place stand before that from a place of a block, and the others do not
pub record IsFirstFrom (block place : ℕ) (edges : List Edge) (first : ℕ) : Type 0 where
  pub within : first ≤ length edges
  pub less : (k : ℕ) (e : Edge) → k < first → slice_get edges k ≡ Some e → is_before block place e ≡ true
  pub more : (k : ℕ) (e : Edge) → first ≤ k → slice_get edges k ≡ Some e → is_before block place e ≡ false
