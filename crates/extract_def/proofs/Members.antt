-- Members of lists, and where they stand.
use Rattle.std.proofs.Common.{◌≡◌, ℕ, zero, suc, ◌+◌, Bool, true, false, ◌||◌, if◌then◌else◌, List, [], ◌∷◌, ◌++◌, map, length, ◌⊎◌, inl, inr, arith, sym, ◌∙◌, ap, refl, subst}
use Rattle.std.proofs.lemmas.Bool.{eqb-true, eq-eqb}
use Rattle.std.specs.Prelude.{Some, slice_get, nat_eq, cond, filter, flat_map, All, slice_index_or}
use Rattle.std.specs.List.{list_all, list_any}
use Rattle.hy_val.proofs.Booleans.{and-first, and-second}
use Rattle.extract_def.proofs.Facts.{Among}
use Rattle.extract_def.proofs.Lookup.{below, get_left, get_right}
use Rattle.extract_def.specs.Places.{index_of}
use Rattle.extract_def.specs.Scopes.{is_in}

-- ---- tests

pub or-cases : (a b : Bool) → (a || b) ≡ true → (a ≡ true) ⊎ (b ≡ true)
or-cases true b h = inl refl
or-cases false b h = inr h

pub or-left : (a b : Bool) → a ≡ true → (a || b) ≡ true
or-left true b h = refl
or-left false b h = absurd cc

pub or-right : (a b : Bool) → b ≡ true → (a || b) ≡ true
or-right true b h = refl
or-right false b h = h

pub all_at : {A : Type 0} (test : A → Bool) (xs : List A) (x : A) → list_all test xs ≡ true → Among xs x → test x ≡ true
all_at test [] x h (k, e) = absurd cc
all_at test (y ∷ ys) x h (zero, e) = let same : y ≡ x = cc in ap test (sym same) ∙ and-first (test y) _ h
all_at test (y ∷ ys) x h (suc k, e) = all_at test ys x (and-second (test y) _ h) (k, e)

pub any_of : {A : Type 0} (test : A → Bool) (xs : List A) (x : A) → Among xs x → test x ≡ true → list_any test xs ≡ true
any_of test [] x (k, e) h = absurd cc
any_of test (y ∷ ys) x (zero, e) h = let same : y ≡ x = cc in or-left (test y) (list_any test ys) (ap test same ∙ h)
any_of test (y ∷ ys) x (suc k, e) h = or-right (test y) (list_any test ys) (any_of test ys x (k, e) h)

pub any_at : {A : Type 0} (test : A → Bool) (xs : List A) → list_any test xs ≡ true → (x : A) × Among xs x × (test x ≡ true)
any_at test [] h = absurd cc
any_at test (y ∷ ys) h = at (or-cases (test y) (list_any test ys) h) (λ k. any_at test ys k)
  where
    at : (test y ≡ true) ⊎ (list_any test ys ≡ true) → (list_any test ys ≡ true → (x : _) × Among ys x × (test x ≡ true)) → (x : _) × Among (y ∷ ys) x × (test x ≡ true)
    at (inl k) ih = (y, (0, refl), k)
    at (inr k) ih = let i = ih k in (i.0, (suc i.1.0, i.1.1), i.2)

-- ---- numbers

pub is_in_at : (n : ℕ) (ns : List ℕ) → is_in n ns ≡ true → Among ns n
is_in_at n ns h = let a = any_at (λ m. nat_eq m n) ns h in (a.1.0, a.1.1 ∙ ap (λ m. Some m) (eqb-true a.0 n a.2))

pub at_is_in : (n : ℕ) (ns : List ℕ) → Among ns n → is_in n ns ≡ true
at_is_in n ns a = any_of (λ m. nat_eq m n) ns n a (eq-eqb n n refl)

-- ---- filters, maps and pieces

pub in_filter : {A : Type 0} (test : A → Bool) (xs : List A) (x : A) → Among xs x → test x ≡ true → Among (filter test xs) x
in_filter test [] x (k, e) h = absurd cc
in_filter test (y ∷ ys) x (zero, e) h =
    let same : y ≡ x = cc in
    (0, ap (λ b. slice_get (cond b (y ∷ filter test ys) (filter test ys)) 0) (ap test same ∙ h) ∙ ap (λ z. Some z) same)
in_filter test (y ∷ ys) x (suc k, e) h = at (test y) refl (in_filter test ys x (k, e) h)
  where
    at : (b : Bool) → test y ≡ b → Among (filter test ys) x → Among (filter test (y ∷ ys)) x
    at true s i = (suc i.0, ap (λ b. slice_get (cond b (y ∷ filter test ys) (filter test ys)) (suc i.0)) s ∙ i.1)
    at false s i = (i.0, ap (λ b. slice_get (cond b (y ∷ filter test ys) (filter test ys)) i.0) s ∙ i.1)

pub from_filter : {A : Type 0} (test : A → Bool) (xs : List A) (x : A) → Among (filter test xs) x → Among xs x × (test x ≡ true)
from_filter test [] x (k, e) = absurd cc
from_filter test (y ∷ ys) x a = at (test y) refl a (λ i. from_filter test ys x i)
  where
    at : (b : Bool) → test y ≡ b → Among (cond b (y ∷ filter test ys) (filter test ys)) x → (Among (filter test ys) x → Among ys x × (test x ≡ true)) → Among (y ∷ ys) x × (test x ≡ true)
    at true s (zero, e) ih = let same : y ≡ x = cc in ((0, e), ap test (sym same) ∙ s)
    at true s (suc k, e) ih = let i = ih (k, e) in ((suc i.0.0, i.0.1), i.1)
    at false s i ih = let j = ih i in ((suc j.0.0, j.0.1), j.1)

pub get_map : {A B : Type 0} (f : A → B) (xs : List A) (k : ℕ) (x : A) → slice_get xs k ≡ Some x → slice_get (map f xs) k ≡ Some (f x)
get_map f [] k x e = absurd cc
get_map f (y ∷ ys) zero x e = let same : y ≡ x = cc in ap (λ z. Some (f z)) same
get_map f (y ∷ ys) (suc k) x e = get_map f ys k x e

pub index_found : (n : ℕ) (ns : List ℕ) → Among ns n → slice_get ns (index_of n ns) ≡ Some n
index_found n [] (k, e) = absurd cc
index_found n (m ∷ ms) a = at (nat_eq m n) refl a (λ i. index_found n ms i)
  where
    at : (b : Bool) → nat_eq m n ≡ b → Among (m ∷ ms) n → (Among ms n → slice_get ms (index_of n ms) ≡ Some n) → slice_get (m ∷ ms) (index_of n (m ∷ ms)) ≡ Some n
    at true s i ih = ap (λ b. slice_get (m ∷ ms) (if b then 0 else index_of n ms + 1)) s ∙ ap (λ z. Some z) (eqb-true m n s)
    at false s (zero, e) ih = let same : m ≡ n = cc in absurd (let t = eq-eqb m n same in cc)
    at false s (suc k, e) ih =
        let p : index_of n ms + 1 ≡ suc (index_of n ms) = omega arith in
        ap (λ b. slice_get (m ∷ ms) (if b then 0 else index_of n ms + 1)) s ∙ (ap (slice_get (m ∷ ms)) p ∙ ih (k, e))

pub in_pieces : {A B : Type 0} (f : A → List B) (xs : List A) (x : A) (y : B) → Among xs x → Among (f x) y → Among (flat_map f xs) y
in_pieces f [] x y (k, e) b = absurd cc
in_pieces f (z ∷ zs) x y (zero, e) (j, h) = let same : z ≡ x = cc in (j, get_left (f z) (flat_map f zs) j y (ap (λ u. slice_get (f u) j) same ∙ h))
in_pieces f (z ∷ zs) x y (suc k, e) b = let i = in_pieces f zs x y (k, e) b in (length (f z) + i.0, get_right (f z) (flat_map f zs) i.0 ∙ i.1)

pub split_get : {A : Type 0} (xs ys : List A) (k : ℕ) (a : A) → slice_get (xs ++ ys) k ≡ Some a → Among xs a ⊎ Among ys a
split_get [] ys k a e = inr (k, e)
split_get (x ∷ xs) ys zero a e = inl (0, e)
split_get (x ∷ xs) ys (suc k) a e = at (split_get xs ys k a e)
  where
    at : Among xs a ⊎ Among ys a → Among (x ∷ xs) a ⊎ Among ys a
    at (inl (j, h)) = inl (suc j, h)
    at (inr h) = inr h

pub from_pieces : {A B : Type 0} (f : A → List B) (xs : List A) (y : B) → Among (flat_map f xs) y → (x : A) × Among xs x × Among (f x) y
from_pieces f [] y (k, e) = absurd cc
from_pieces f (z ∷ zs) y (k, e) = at (split_get (f z) (flat_map f zs) k y e) (λ i. from_pieces f zs y i)
  where
    at : Among (f z) y ⊎ Among (flat_map f zs) y → (Among (flat_map f zs) y → (x : _) × Among zs x × Among (f x) y) → (x : _) × Among (z ∷ zs) x × Among (f x) y
    at (inl h) ih = (z, (0, refl), h)
    at (inr h) ih = let i = ih h in (i.0, (suc i.1.0, i.1.1), i.2)

-- what holds of all elements holds of one
get_or_is : {A : Type 0} (xs : List A) (k : ℕ) (x d : A) → slice_get xs k ≡ Some x → slice_index_or xs k d ≡ x
get_or_is [] k x d e = absurd cc
get_or_is (y ∷ ys) zero x d e = cc
get_or_is (y ∷ ys) (suc k) x d e = get_or_is ys k x d e

pub all_holds : {A : Type 0} (P : A → Type 0) (xs : List A) (k : ℕ) (x : A) → All P xs → slice_get xs k ≡ Some x → P x
all_holds P xs k x h e = subst P (get_or_is xs k x x e) (h k x (below xs k x e))

-- a list of one element has no other
pub only_one : {A : Type 0} (x y : A) → Among (x ∷ []) y → x ≡ y
only_one x y (zero, e) = cc
only_one x y (suc k, e) = absurd cc
