-- The row of a table that is there, or is not.
use Rattle.std.proofs.Common.{◌≡◌, ℕ, zero, suc, Bool, List, [], ◌∷◌, refl}
use Rattle.std.specs.Prelude.{None, Some, slice_get}
use Rattle.flat_prog.specs.Limits.{row}

pub row_there : (table : List (List Bool)) (p : ℕ) (marks : List Bool) → slice_get table p ≡ Some marks → row table p ≡ marks
row_there [] p marks e = cc
row_there (m ∷ ms) zero marks e = cc
row_there (m ∷ ms) (suc p) marks e = row_there ms p marks e

pub no_row : (table : List (List Bool)) (p : ℕ) → slice_get table p ≡ None → row table p ≡ []
no_row [] zero e = refl
no_row [] (suc p) e = refl
no_row (m ∷ ms) zero e = cc
no_row (m ∷ ms) (suc p) e = no_row ms p e
