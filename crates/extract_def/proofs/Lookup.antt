-- What stands at a place of a list that was put together from two.
use Rattle.std.proofs.Common.{◌≡◌, ℕ, zero, suc, ◌+◌, ◌<◌, List, [], ◌∷◌, ◌++◌, length, arith, ◌∙◌, ap, refl}
use Rattle.std.specs.Prelude.{Some, slice_get, slice_set}

pub get_left : {A : Type 0} (xs ys : List A) (k : ℕ) (a : A) → slice_get xs k ≡ Some a → slice_get (xs ++ ys) k ≡ Some a
get_left [] ys k a e = absurd cc
get_left (x ∷ xs) ys zero a e = e
get_left (x ∷ xs) ys (suc k) a e = get_left xs ys k a e

pub get_right : {A : Type 0} (xs ys : List A) (k : ℕ) → slice_get (xs ++ ys) (length xs + k) ≡ slice_get ys k
get_right [] ys k = let e : 0 + k ≡ k = omega arith in ap (slice_get ys) e
get_right (x ∷ xs) ys k = let e : suc (length xs) + k ≡ suc (length xs + k) = omega arith in ap (slice_get (x ∷ (xs ++ ys))) e ∙ get_right xs ys k

pub set_left : {A : Type 0} (xs ys : List A) (k : ℕ) (v : A) → k < length xs → slice_set (xs ++ ys) k v ≡ slice_set xs k v ++ ys
set_left [] ys k v lt = absurd (omega arith)
set_left (x ∷ xs) ys zero v lt = refl
set_left (x ∷ xs) ys (suc k) v lt = ap (λ zs. x ∷ zs) (set_left xs ys k v (omega arith))

pub set_right : {A : Type 0} (xs ys : List A) (k : ℕ) (v : A) → slice_set (xs ++ ys) (length xs + k) v ≡ xs ++ slice_set ys k v
set_right [] ys k v = let e : 0 + k ≡ k = omega arith in ap (λ n. slice_set ys n v) e
set_right (x ∷ xs) ys k v = let e : suc (length xs) + k ≡ suc (length xs + k) = omega arith in ap (λ n. slice_set (x ∷ (xs ++ ys)) n v) e ∙ ap (λ zs. x ∷ zs) (set_right xs ys k v)

pub set_length : {A : Type 0} (xs : List A) (k : ℕ) (v : A) → length (slice_set xs k v) ≡ length xs
set_length [] k v = refl
set_length (x ∷ xs) zero v = refl
set_length (x ∷ xs) (suc k) v = let e = set_length xs k v in omega (arith, e)

pub below : {A : Type 0} (xs : List A) (n : ℕ) (a : A) → slice_get xs n ≡ Some a → n < length xs
below [] n a e = absurd cc
below (x ∷ xs) zero a e = omega arith
below (x ∷ xs) (suc n) a e = let k = below xs n a e in omega (arith, k)
