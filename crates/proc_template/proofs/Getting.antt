-- Elements of lists by place.
use Rattle.std.proofs.Common.{arith, ◌≡◌, ℕ, zero, suc, ◌+◌, ◌<◌, ◌⊎◌, true, List, [], ◌∷◌, ◌++◌, map, length, take, sym, ap, ◌∙◌, refl, inl, inr}
use Rattle.std.specs.Prelude.{Some, slice_get, slice_index, nat_eq}
use Rattle.std.proofs.lemmas.Bool.Decides.{nat_tests}
use Rattle.flat_prog.specs.Sites.{numbers_from}

pub get_left : {A : Type 0} (xs ys : List A) (i : ℕ) (x : A) → slice_get xs i ≡ Some x → slice_get (xs ++ ys) i ≡ Some x
get_left [] ys i x e = absurd cc
get_left (y ∷ xs) ys zero x e = e
get_left (y ∷ xs) ys (suc i) x e = get_left xs ys i x e

pub get_right : {A : Type 0} (xs ys : List A) (i : ℕ) → slice_get (xs ++ ys) (length xs + i) ≡ slice_get ys i
get_right [] ys i = let e : 0 + i ≡ i = omega arith in ap (slice_get ys) e
get_right (x ∷ xs) ys i = let e : suc (length xs) + i ≡ suc (length xs + i) = omega arith in ap (slice_get (x ∷ (xs ++ ys))) e ∙ get_right xs ys i

pub get_split : {A : Type 0} (xs ys : List A) (i : ℕ) (x : A) → slice_get (xs ++ ys) i ≡ Some x → (slice_get xs i ≡ Some x) ⊎ ((j : ℕ) × (i ≡ length xs + j) × (slice_get ys j ≡ Some x))
get_split [] ys i x e = let z : i ≡ 0 + i = omega arith in inr (i, z, e)
get_split (y ∷ xs) ys zero x e = inl e
get_split (y ∷ xs) ys (suc i) x e = elim (get_split xs ys i x e) [ inl h ↦ inl h | inr h ↦ let z : suc i ≡ suc (length xs) + h.0 = omega (arith, h.1) in inr (h.0, z, h.2) ]

pub get_map : {A B : Type 0} (f : A → B) (xs : List A) (i : ℕ) (x : A) → slice_get xs i ≡ Some x → slice_get (map f xs) i ≡ Some (f x)
get_map f [] i x e = absurd cc
get_map f (y ∷ xs) zero x e = let same : y ≡ x = cc in ap (λ z. Some (f z)) same
get_map f (y ∷ xs) (suc i) x e = get_map f xs i x e

pub get_within : {A : Type 0} (xs : List A) (i : ℕ) (x : A) → slice_get xs i ≡ Some x → i < length xs
get_within [] i x e = absurd cc
get_within (y ∷ xs) zero x e = omega arith
get_within (y ∷ xs) (suc i) x e = let h = get_within xs i x e in omega (arith, h)

pub get_there : {A : Type 0} (xs : List A) (i : ℕ) → i < length xs → (x : A) × (slice_get xs i ≡ Some x)
get_there [] i l = absurd (omega (arith, l))
get_there (x ∷ xs) zero l = (x, refl)
get_there (x ∷ xs) (suc i) l = get_there xs i (omega (arith, l))

pub get_same : {A : Type 0} (xs : List A) (i : ℕ) (x y : A) → slice_get xs i ≡ Some x → slice_get xs i ≡ Some y → x ≡ y
get_same xs i x y e f = let g : Some x ≡ Some y = sym e ∙ f in cc

pub index_of : (xs : List ℕ) (i x : ℕ) → slice_get xs i ≡ Some x → slice_index xs i ≡ x
index_of [] i x e = absurd cc
index_of (y ∷ xs) zero x e = cc
index_of (y ∷ xs) (suc i) x e = index_of xs i x e

pub numbers_at : (c m j x : ℕ) → slice_get (numbers_from c m) j ≡ Some x → x ≡ c + j
numbers_at c zero j x e = absurd cc
numbers_at c (suc m) zero x e = let h : c ≡ x = cc in omega (arith, h)
numbers_at c (suc m) (suc j) x e = let h = numbers_at (c + 1) m j x e in omega (arith, h)

pub numbers_get : (c m j : ℕ) → j < m → slice_get (numbers_from c m) j ≡ Some (c + j)
numbers_get c zero j l = absurd (omega (arith, l))
numbers_get c (suc m) zero l = let e : c ≡ c + 0 = omega arith in ap Some e
numbers_get c (suc m) (suc j) l = let e : c + 1 + j ≡ c + suc j = omega arith in numbers_get (c + 1) m j (omega (arith, l)) ∙ ap Some e

pub numbers_count : (c m : ℕ) → length (numbers_from c m) ≡ m
numbers_count c zero = refl
numbers_count c (suc m) = ap suc (numbers_count (c + 1) m)

pub map_count : {A B : Type 0} (f : A → B) (xs : List A) → length (map f xs) ≡ length xs
map_count f [] = refl
map_count f (x ∷ xs) = ap suc (map_count f xs)

pub take_whole : {A : Type 0} (xs : List A) → take (length xs) xs ≡ xs
take_whole [] = refl
take_whole (x ∷ xs) = ap (λ ys. x ∷ ys) (take_whole xs)

pub take_map : {A B : Type 0} (f : A → B) (n : ℕ) (xs : List A) → map f (take n xs) ≡ take n (map f xs)
take_map f zero xs = refl
take_map f (suc n) [] = refl
take_map f (suc n) (x ∷ xs) = ap (λ ys. f x ∷ ys) (take_map f n xs)

pub equal_numbers : (m n : ℕ) → nat_eq m n ≡ true → m ≡ n
equal_numbers m n h = grind (arith, nat_tests, h)

pub number_equals : (m n : ℕ) → m ≡ n → nat_eq m n ≡ true
number_equals m n h = grind (arith, nat_tests, h)
