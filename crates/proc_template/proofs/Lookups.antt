-- Places where a list has nothing.
use Rattle.std.proofs.Common.{◌≡◌, ℕ, zero, suc, List, [], ◌∷◌, refl}
use Rattle.std.specs.Prelude.{None, slice_get, slice_index}

pub no_index : (xs : List ℕ) (n : ℕ) → slice_get xs n ≡ None → 0 ≡ slice_index xs n
no_index [] zero h = refl
no_index [] (suc n) h = refl
no_index (x ∷ xs) zero h = cc
no_index (x ∷ xs) (suc n) h = no_index xs n h
