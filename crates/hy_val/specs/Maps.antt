-- Map values (This is Boogie 2: select and store), where an index that is not listed has the entry zero.
use Rattle.std.specs.Prelude.{◌≡◌, ◌≢◌, ℕ, Bool, true, not, ◌&&◌, nat_eq, nat_lt, List, [], ◌∷◌, if◌then◌else◌, IsTrue}
use Rattle.hy_val.specs.Sorts.{has_scalar, rank, is_zero, zero_of_scalar}
use Rattle.hy_val.specs.Table.{Table}
use Rattle.hy_val.specs.declared.sort.Scalar.{Scalar}
use Rattle.hy_val.specs.declared.atom.Atom.{Atom}

-- the pair's parts have their sorts, and its entry isn't zero
abbrev pub pair_fits : Scalar → Scalar → Atom × Atom → Bool
pair_fits index elem p = has_scalar p.0 index && has_scalar p.1 elem && not (is_zero p.1)

abbrev pub pairs_fit : Scalar → Scalar → List (Atom × Atom) → Bool
pairs_fit index elem [] = true
pairs_fit index elem (p ∷ ps) = pair_fits index elem p && pairs_fit index elem ps

-- the first index is above n, if there is one
abbrev pub first_above : ℕ → List (Atom × Atom) → Bool
first_above n [] = true
first_above n (p ∷ ps) = nat_lt n (rank p.0)

-- each index is below the next
abbrev pub ascends : List (Atom × Atom) → Bool
ascends [] = true
ascends (p ∷ ps) = first_above (rank p.0) ps && ascends ps

-- a map value: the pairs have its sorts, ascend by index, and hold no zero
abbrev pub is_map : Table → Bool
is_map m = pairs_fit m.index m.elem m.pairs && ascends m.pairs

-- the entry at i among the pairs, or another atom where there is none
abbrev pub entry : Atom → List (Atom × Atom) → Atom → Atom
entry none [] i = none
entry none (p ∷ ps) i = if nat_eq (rank p.0) (rank i) then p.1 else entry none ps i

-- the entry of a map at i, else zero
abbrev pub select : Table → Atom → Atom
select m i = entry (zero_of_scalar m.elem) m.pairs i

-- i with its entry, and nothing where that is zero
abbrev pub kept : Atom → Atom → List (Atom × Atom) → List (Atom × Atom)
kept i v ps = if is_zero v then ps else (i, v) ∷ ps

-- the pairs with v at i, in place of what was there
abbrev pub put : Atom → Atom → List (Atom × Atom) → List (Atom × Atom)
put i v [] = kept i v []
put i v (p ∷ ps) =
    if nat_lt (rank p.0) (rank i) then p ∷ put i v ps
    else if nat_eq (rank p.0) (rank i) then kept i v ps
    else kept i v (p ∷ ps)

-- the map that has v at i and is else the same
abbrev pub stored : Table → Atom → Atom → Table
stored m i v = record { index = m.index; elem = m.elem; pairs = put i v m.pairs }

-- the new map has the same sorts, v at i, and at each other index the same entry
pub record WritesAt (old new : Table) (i v : Atom) : Type 0 where
  pub index : new.index ≡ old.index
  pub elem : new.elem ≡ old.elem
  pub at : select new i ≡ v
  pub elsewhere : (j : Atom) → IsTrue (has_scalar j old.index) → j ≢ i → select new j ≡ select old j

-- two map values of the same sorts that agree at every index are equal
abbrev pub MapsThatAgreeAreEqual : Type 0
MapsThatAgreeAreEqual =
    (m n : Table) → IsTrue (is_map m) → IsTrue (is_map n) → m.index ≡ n.index → m.elem ≡ n.elem
    → ((i : Atom) → IsTrue (has_scalar i m.index) → select m i ≡ select n i) → m ≡ n
