-- Orders of the blocks of a procedure in which each edge leads on: a block comes before all to which its edges lead (the
-- topological orders of its graph).
use Rattle.std.specs.Prelude.{◌≡◌, ◌<◌, ℕ, nat_eq, Bool, true, false, ◌||◌, List, [], ◌∷◌, length, slice_get, Some}
use Rattle.flat_prog.specs.Shape.{place_at}
use Rattle.flat_prog.specs.declared.proc.FlatProc.{FlatProc}

-- the number is among these
abbrev pub is_in : ℕ → List ℕ → Bool
is_in n [] = false
is_in n (m ∷ ns) = nat_eq n m || is_in n ns

-- each edge from a block of the list leads to one behind it
abbrev pub Onward : FlatProc → List ℕ → Type 0
Onward q [] = Unit {0}
Onward q (n ∷ ns) = ((place to : ℕ) → place_at (slice_get q.blocks n) place ≡ Some to → is_in to ns ≡ true) × Onward q ns

-- a list of all blocks, and of nothing else, in which each edge leads on
pub record IsOrderOf (q : FlatProc) (order : List ℕ) : Type 0 where
  pub onward : Onward q order
  pub every : (n : ℕ) → n < length q.blocks → is_in n order ≡ true
  pub there : (n : ℕ) → is_in n order ≡ true → n < length q.blocks

-- there is one
pub record IsAcyclic (q : FlatProc) : Type 0 where
  pub order : List ℕ
  pub ordered : IsOrderOf q order
