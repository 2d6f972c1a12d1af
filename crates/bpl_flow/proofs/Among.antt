-- Facts of each element of a list, and numbers among others.
use Rattle.std.proofs.Common.{◌≡◌, ◌⊎◌, inl, inr, ℕ, Bool, true, false, ◌||◌, nat_eq, List, [], ◌∷◌, ◌++◌, map, refl, sym, subst}
use Rattle.std.specs.List.{list_all, list_any, AllByRecursion as Each}
use Rattle.std.proofs.lemmas.Bool.{eqb-true, eq-eqb, or_cases, or_left, or_right, and_parts, and_from}

-- ---- each element

pub each-append : {A : Type 0} (P : A → Type 0) (xs ys : List A) → Each P xs → Each P ys → Each P (xs ++ ys)
each-append P [] ys px py = py
each-append P (x ∷ xs) ys px py = (px.0, each-append P xs ys px.1 py)

pub each-last : {A : Type 0} (P : A → Type 0) (xs : List A) (y : A) → Each P xs → P y → Each P (xs ++ y ∷ [])
each-last P xs y px py = each-append P xs (y ∷ []) px (py, tt)

pub each-weaker : {A : Type 0} (P Q : A → Type 0) → ((x : A) → P x → Q x) → (xs : List A) → Each P xs → Each Q xs
each-weaker P Q f [] px = tt
each-weaker P Q f (x ∷ xs) px = (f x px.0, each-weaker P Q f xs px.1)

pub each-map : {A B : Type 0} (P : B → Type 0) (f : A → B) (xs : List A) → Each (λ x. P (f x)) xs → Each P (map f xs)
each-map P f [] px = tt
each-map P f (x ∷ xs) px = (px.0, each-map P f xs px.1)

pub list_all-each : {A : Type 0} (p : A → Bool) (xs : List A) → list_all p xs ≡ true → Each (λ x. p x ≡ true) xs
list_all-each p [] h = tt
list_all-each p (x ∷ xs) h = let b = and_parts (p x) (list_all p xs) h in (b.0, list_all-each p xs b.1)

pub each-list_all : {A : Type 0} (p : A → Bool) (xs : List A) → Each (λ x. p x ≡ true) xs → list_all p xs ≡ true
each-list_all p [] h = refl
each-list_all p (x ∷ xs) h = and_from (p x) (list_all p xs) h.0 (each-list_all p xs h.1)

-- ---- one of some

abbrev pub Among : {A : Type 0} → A → List A → Type 0
Among x [] = ⊥
Among x (y ∷ ys) = (x ≡ y) ⊎ Among x ys

pub among-left : {A : Type 0} (x : A) (xs ys : List A) → Among x xs → Among x (xs ++ ys)
among-left x [] ys a = absurd a
among-left x (y ∷ xs) ys (inl e) = inl e
among-left x (y ∷ xs) ys (inr a) = inr (among-left x xs ys a)

pub among-right : {A : Type 0} (x : A) (xs ys : List A) → Among x ys → Among x (xs ++ ys)
among-right x [] ys a = a
among-right x (y ∷ xs) ys a = inr (among-right x xs ys a)

pub each-among : {A B : Type 0} (f : A → B) (xs : List A) → Each (λ x. Among (f x) (map f xs)) xs
each-among f [] = tt
each-among f (x ∷ xs) = (inl refl, each-weaker (λ y. Among (f y) (map f xs)) (λ y. Among (f y) (map f (x ∷ xs))) (λ y a. inr a) xs (each-among f xs))

pub each-at : {A : Type 0} (P : A → Type 0) (xs : List A) (x : A) → Each P xs → Among x xs → P x
each-at P [] x px a = absurd a
each-at P (y ∷ xs) x px (inl e) = subst P (sym e) px.0
each-at P (y ∷ xs) x px (inr a) = each-at P xs x px.1 a

-- ---- numbers

abbrev pub In : ℕ → List ℕ → Type 0
In n ns = list_any (nat_eq n) ns ≡ true

or-either : (a b : Bool) → (a ≡ true) ⊎ (b ≡ true) → (a || b) ≡ true
or-either a b (inl h) = or_left a b h
or-either a b (inr h) = or_right a b h

or-second : (a b c : Bool) → (b ≡ true → c ≡ true) → (a ≡ true) ⊎ (b ≡ true) → (a || c) ≡ true
or-second a b c f (inl h) = or_left a c h
or-second a b c f (inr h) = or_right a c (f h)

pub in-left : (n : ℕ) (xs ys : List ℕ) → In n xs → In n (xs ++ ys)
in-left n [] ys h = absurd (cc)
in-left n (x ∷ xs) ys h = or-second (nat_eq n x) (list_any (nat_eq n) xs) (list_any (nat_eq n) (xs ++ ys)) (in-left n xs ys) (or_cases (nat_eq n x) (list_any (nat_eq n) xs) h)

pub in-last : (xs : List ℕ) (y : ℕ) → In y (xs ++ y ∷ [])
in-last [] y = or_left (nat_eq y y) false (eq-eqb y y refl)
in-last (x ∷ xs) y = or_right (nat_eq y x) (list_any (nat_eq y) (xs ++ y ∷ [])) (in-last xs y)

in-one : (n y : ℕ) → (nat_eq n y ≡ true) ⊎ (false ≡ true) → In n [] ⊎ (n ≡ y)
in-one n y (inl e) = inr (eqb-true n y e)
in-one n y (inr e) = absurd (cc)

in-tail : (n x y : ℕ) (xs : List ℕ) → In n xs ⊎ (n ≡ y) → In n (x ∷ xs) ⊎ (n ≡ y)
in-tail n x y xs (inl i) = inl (or_right (nat_eq n x) (list_any (nat_eq n) xs) i)
in-tail n x y xs (inr e) = inr e

in-more : (n x y : ℕ) (xs : List ℕ) → (In n (xs ++ y ∷ []) → In n xs ⊎ (n ≡ y)) → (nat_eq n x ≡ true) ⊎ In n (xs ++ y ∷ []) → In n (x ∷ xs) ⊎ (n ≡ y)
in-more n x y xs f (inl e) = inl (or_left (nat_eq n x) (list_any (nat_eq n) xs) e)
in-more n x y xs f (inr i) = in-tail n x y xs (f i)

pub in-cases : (n : ℕ) (xs : List ℕ) (y : ℕ) → In n (xs ++ y ∷ []) → In n xs ⊎ (n ≡ y)
in-cases n [] y h = in-one n y (or_cases (nat_eq n y) false h)
in-cases n (x ∷ xs) y h = in-more n x y xs (in-cases n xs y) (or_cases (nat_eq n x) (list_any (nat_eq n) (xs ++ y ∷ [])) h)
