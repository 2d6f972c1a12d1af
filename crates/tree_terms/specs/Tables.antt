-- Lists of numbers, one for each node.
use Rattle.std.specs.Prelude.{◌≡◌, ℕ, zero, suc, List, [], ◌∷◌, ◌++◌, length}

abbrev pub row : List (List ℕ) → ℕ → List ℕ
row [] m = []
row (r ∷ rs) zero = r
row (r ∷ rs) (suc m) = row rs m

-- one node's list has a number more
pub record IsPushed (old new : List (List ℕ)) (node number : ℕ) : Type 0 where
  pub count : length new ≡ length old
  pub here : row new node ≡ row old node ++ number ∷ []
  pub others : (m : ℕ) → (m ≡ node → ⊥) → row new m ≡ row old m
