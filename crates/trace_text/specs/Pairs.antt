-- A map whose pairs come one by one.
use Rattle.std.specs.Prelude.{ℕ, Bool, true, nat_lt, List, [], ◌∷◌, ◌++◌}
use Rattle.hy_val.specs.Sorts.{rank}
use Rattle.hy_val.specs.Table.{Table}
use Rattle.hy_val.specs.declared.atom.Atom.{Atom}

-- the map with a pair behind its own
abbrev pub with_pair : Table → Atom × Atom → Table
with_pair m pair = record { index = m.index; elem = m.elem; pairs = m.pairs ++ pair ∷ [] }

-- the number is above the last index, if there is one
abbrev pub above_last : ℕ → List (Atom × Atom) → Bool
above_last n [] = true
above_last n (last ∷ []) = nat_lt (rank last.0) n
above_last n (first ∷ second ∷ more) = above_last n (second ∷ more)
