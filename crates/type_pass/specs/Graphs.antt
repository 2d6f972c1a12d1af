-- Directed graphs: for each node, by its number, the nodes to which an edge leads from it.
use Rattle.std.specs.Prelude.{ℕ, zero, suc, Bool, false, ◌||◌, nat_eq, List, [], length, slice_get, unwrap_or}
use Rattle.std.specs.List.{list_any}

abbrev pub Graph : Type 0
Graph = List (List ℕ)

abbrev pub edges : Graph → ℕ → List ℕ
edges g a = unwrap_or (slice_get g a) []

-- a path of one edge or more, and of at most so many, leads from a to b
abbrev pub leads : ℕ → Graph → ℕ → ℕ → Bool
leads zero g a b = false
leads (suc n) g a b = list_any (λ c. nat_eq c b || leads n g c b) (edges g a)

-- The node lies on a circle. A shortest circle passes each node once at most, so it has no more edges than the graph has nodes.
abbrev pub is_on_circle : Graph → ℕ → Bool
is_on_circle g a = leads (length g) g a a
