-- Elements of lists: some, all, and those at places.
use Rattle.std.proofs.Common.{◌≡◌, ℕ, zero, suc, Bool, true, List, [], ◌∷◌, slice_get, Some, All, Any, Contains, refl, sym, ap, ◌∙◌, subst, arith, not-suc-le-zero, inl, inr, ◌⊎◌}
use Rattle.std.proofs.lemmas.Bool.{and_parts}
use Rattle.std.specs.List.{list_all}

pub any_here : {X : Type 0} (P : X → Type 0) (x : X) (xs : List X) → P x → Any P (x ∷ xs)
any_here P x xs h = (0, x, omega arith, refl, h)

pub any_there : {X : Type 0} (P : X → Type 0) (x : X) (xs : List X) → Any P xs → Any P (x ∷ xs)
any_there P x xs (k, y, within, is, h) = (suc k, y, omega arith, is, h)

pub any_at : {X : Type 0} (P : X → Type 0) (xs : List X) (k : ℕ) (x : X) → slice_get xs k ≡ Some x → P x → Any P xs
any_at P [] k x h p = cc
any_at P (y ∷ ys) zero x h p = let e : y ≡ x = cc in (0, x, omega arith, e, p)
any_at P (y ∷ ys) (suc k) x h p = any_there P y ys (any_at P ys k x h p)

pub has_here : {X : Type 0} (x : X) (xs : List X) → Contains (x ∷ xs) x
has_here x xs = (0, omega arith, refl)

pub has_there : {X : Type 0} (x y : X) (xs : List X) → Contains xs x → Contains (y ∷ xs) x
has_there x y xs (k, within, is) = (suc k, omega arith, is)

pub any_cases : {X : Type 0} (P : X → Type 0) (x : X) (xs : List X) → Any P (x ∷ xs) → P x ⊎ Any P xs
any_cases P x xs (zero, y, within, is, h) = inl (subst P (sym is) h)
any_cases P x xs (suc k, y, within, is, h) = inr (k, y, omega arith, is, h)

pub has_cases : {X : Type 0} (x y : X) (xs : List X) → Contains (y ∷ xs) x → (y ≡ x) ⊎ Contains xs x
has_cases x y xs (zero, within, is) = inl is
has_cases x y xs (suc k, within, is) = inr (k, omega arith, is)

pub any_none : {X : Type 0} (P : X → Type 0) → Any P [] → ⊥
any_none P (k, y, within, is, h) = not-suc-le-zero within

pub has_none : {X : Type 0} (x : X) → Contains [] x → ⊥
has_none x (k, within, is) = not-suc-le-zero within

pub has_at : {X : Type 0} (xs : List X) (k : ℕ) (x : X) → slice_get xs k ≡ Some x → Contains xs x
has_at [] k x h = cc
has_at (y ∷ ys) zero x h = let e : y ≡ x = cc in (0, omega arith, e)
has_at (y ∷ ys) (suc k) x h = has_there x y ys (has_at ys k x h)

pub all_at : {X : Type 0} (P : X → Type 0) (xs : List X) (k : ℕ) (x : X) → All P xs → slice_get xs k ≡ Some x → P x
all_at P [] k x all h = cc
all_at P (y ∷ ys) zero x all h = let e : y ≡ x = cc in subst P e (all 0 y (omega arith))
all_at P (y ∷ ys) (suc k) x all h = all_at P ys k x (λ i d within. all (suc i) d (omega arith)) h

-- a test that all pass is passed by the one at a place
pub test_at : {X : Type 0} (test : X → Bool) (xs : List X) (k : ℕ) (x : X) → list_all test xs ≡ true → slice_get xs k ≡ Some x → test x ≡ true
test_at test [] k x all h = cc
test_at test (y ∷ ys) zero x all h = let e : y ≡ x = cc in subst (λ z. test z ≡ true) e (and_parts (test y) (list_all test ys) all).0
test_at test (y ∷ ys) (suc k) x all h = test_at test ys k x (and_parts (test y) (list_all test ys) all).1 h

-- lists that agree at each place are equal
pub alike : {X : Type 0} (xs ys : List X) → ((i : ℕ) → slice_get xs i ≡ slice_get ys i) → xs ≡ ys
alike [] [] same = refl
alike [] (y ∷ ys) same = let h = same 0 in cc
alike (x ∷ xs) [] same = let h = same 0 in cc
alike (x ∷ xs) (y ∷ ys) same = let h = same 0 in let e : x ≡ y = cc in ap (λ z. z ∷ xs) e ∙ ap (λ zs. y ∷ zs) (alike xs ys (λ i. same (suc i)))
