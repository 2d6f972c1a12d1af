-- Where an index stands, or would stand, among ascending pairs.
use Rattle.std.specs.Prelude.{ℕ, zero, suc, Bool, false, nat_eq, nat_lt, List, [], ◌∷◌, if◌then◌else◌, Option, None, Some}
use Rattle.hy_val.specs.Sorts.{rank}
use Rattle.hy_val.specs.declared.atom.Atom.{Atom}

-- how many pairs at the front have an index below i
abbrev pub count_below : Atom → List (Atom × Atom) → ℕ
count_below i [] = zero
count_below i (p ∷ ps) = if nat_lt (rank p.0) (rank i) then suc (count_below i ps) else zero

-- the pair has the index i
abbrev pub is_at : Atom → Option (Atom × Atom) → Bool
is_at i None = false
is_at i (Some p) = nat_eq (rank p.0) (rank i)

-- its entry, or another atom
abbrev pub entry_at : Atom → Atom → Option (Atom × Atom) → Atom
entry_at none i None = none
entry_at none i (Some p) = if nat_eq (rank p.0) (rank i) then p.1 else none
