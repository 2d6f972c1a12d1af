-- Lists: what holds of each element, what a look-up finds, and lists that are empty.
use Rattle.std.proofs.Common.{◌≡◌, ℕ, zero, suc, ◌+◌, ◌<◌, Bool, true, false, ◌&&◌, ◌||◌, List, [], ◌∷◌, ◌++◌, length, map, flat_map, Option, None, Some, refl, sym, ◌∙◌, ap, subst, arith}
use Rattle.std.specs.List.{AllByRecursion, find, list_any, list_all, slice_get, position, position_or_len, prefix_len, enumerate_from}
use Rattle.std.specs.Option.{option_map}
use Rattle.std.specs.Prelude.{nat_lt, not, if◌then◌else◌}
use Rattle.std.proofs.lemmas.Bool.Decides.{nat_tests}
use Rattle.std.proofs.lemmas.List.{length-map}
use Rattle.std.proofs.lemmas.List.Folds.{find_at}
use Rattle.std.proofs.lemmas.Option.{slice_get_within}

pub some-is : {A : Type 0} (x y : A) → Some x ≡ Some y → x ≡ y
some-is x y h = cc

pub both : (a b : Bool) → (a && b) ≡ true → (a ≡ true) × (b ≡ true)
both true true h = (refl, refl)
both true false h = absurd (cc)
both false b h = absurd (cc)

pub and-true : (a b : Bool) → a ≡ true → b ≡ true → (a && b) ≡ true
and-true a b h k = ap (λ x. x && b) h ∙ k

-- ---- what holds of each

pub all_split : {A : Type 0} (P : A → Type 0) (xs ys : List A) → AllByRecursion P (xs ++ ys) → AllByRecursion P xs × AllByRecursion P ys
all_split P [] ys h = (tt, h)
all_split P (x ∷ xs) ys h = let r = all_split P xs ys h.1 in ((h.0, r.0), r.1)

pub all_join : {A : Type 0} (P : A → Type 0) (xs ys : List A) → AllByRecursion P xs → AllByRecursion P ys → AllByRecursion P (xs ++ ys)
all_join P [] ys hx hy = hy
all_join P (x ∷ xs) ys hx hy = (hx.0, all_join P xs ys hx.1 hy)

pub all_flat : {A B : Type 0} (P : B → Type 0) (f : A → List B) (xs : List A) → AllByRecursion (λ x. AllByRecursion P (f x)) xs → AllByRecursion P (flat_map f xs)
all_flat P f [] h = tt
all_flat P f (x ∷ xs) h = all_join P (f x) (flat_map f xs) h.0 (all_flat P f xs h.1)

pub all_mapped : {A B : Type 0} (P : B → Type 0) (f : A → B) (xs : List A) → AllByRecursion (λ x. P (f x)) xs → AllByRecursion P (map f xs)
all_mapped P f [] h = tt
all_mapped P f (x ∷ xs) h = (h.0, all_mapped P f xs h.1)

pub all_so : {A : Type 0} (P Q : A → Type 0) → ((x : A) → P x → Q x) → (xs : List A) → AllByRecursion P xs → AllByRecursion Q xs
all_so P Q so [] h = tt
all_so P Q so (x ∷ xs) h = (so x h.0, all_so P Q so xs h.1)

pub all_at : {A : Type 0} (P : A → Type 0) (xs : List A) (i : ℕ) (x : A) → AllByRecursion P xs → slice_get xs i ≡ Some x → P x
all_at P [] i x h at = absurd (cc)
all_at P (y ∷ ys) zero x h at = subst P (some-is y x at) h.0
all_at P (y ∷ ys) (suc i) x h at = all_at P ys i x h.1 at

pub tests_all : {A : Type 0} (p : A → Bool) (xs : List A) → AllByRecursion (λ x. p x ≡ true) xs → list_all p xs ≡ true
tests_all p [] h = refl
tests_all p (x ∷ xs) h = and-true (p x) (list_all p xs) h.0 (tests_all p xs h.1)

pub all_tested : {A : Type 0} (p : A → Bool) (xs : List A) → list_all p xs ≡ true → AllByRecursion (λ x. p x ≡ true) xs
all_tested p [] h = tt
all_tested p (x ∷ xs) h = let r = both (p x) (list_all p xs) h in (r.0, all_tested p xs r.1)

-- ---- lists that are empty

pub nil-split : {A : Type 0} (xs ys : List A) → xs ++ ys ≡ [] → (xs ≡ []) × (ys ≡ [])
nil-split [] ys h = (refl, h)
nil-split (x ∷ xs) ys h = absurd (cc)

pub all_nil : {A B : Type 0} (f : A → List B) (xs : List A) → flat_map f xs ≡ [] → AllByRecursion (λ x. f x ≡ []) xs
all_nil f [] h = tt
all_nil f (x ∷ xs) h = let r = nil-split (f x) (flat_map f xs) h in (r.0, all_nil f xs r.1)

-- ---- look-ups

-- what a look-up finds has a place, and passes
pub record Found {A : Type 0} (p : A → Bool) (xs : List A) (x : A) : Type 0 where
  pub place : ℕ
  pub is_place : position p xs ≡ Some place
  pub at : slice_get xs place ≡ Some x
  pub passes : p x ≡ true

passes-if : {A : Type 0} (b : Bool) (p : A → Bool) (y : A) (later : Option A) (x : A) → p y ≡ b → (if b then Some y else later) ≡ Some x → (later ≡ Some x → p x ≡ true) → p x ≡ true
passes-if true p y later x is h rest = subst (λ v. p v ≡ true) (some-is y x h) is
passes-if false p y later x is h rest = rest h

pub find_passes : {A : Type 0} (p : A → Bool) (xs : List A) (x : A) → find p xs ≡ Some x → p x ≡ true
find_passes p [] x h = absurd (cc)
find_passes p (y ∷ ys) x h = passes-if (p y) p y (find p ys) x refl h (find_passes p ys x)

lt-true : (a b : ℕ) → a < b → nat_lt a b ≡ true
lt-true a b h = grind (arith, nat_tests)

pub found : {A : Type 0} (p : A → Bool) (xs : List A) (x : A) → find p xs ≡ Some x → Found p xs x
found p xs x h =
    let at : slice_get xs (position_or_len p xs) ≡ Some x = sym (find_at p xs) ∙ h in
    let below : position_or_len p xs < length xs = slice_get_within xs (position_or_len p xs) x at in
    record {
      place = position_or_len p xs;
      is_place = ap (λ (b : Bool). if b then Some (position_or_len p xs) else None) (lt-true (position_or_len p xs) (length xs) below);
      at = at;
      passes = find_passes p xs x h;
    }

option-if : {A B : Type 0} (b : Bool) (f : A → B) (x : A) (later : Option A) (other : Option B) → other ≡ option_map f later
    → (if b then Some (f x) else other) ≡ option_map f (if b then Some x else later)
option-if true f x later other h = refl
option-if false f x later other h = h

pub find-map : {A B : Type 0} (p : B → Bool) (f : A → B) (xs : List A) → find p (map f xs) ≡ option_map f (find (λ x. p (f x)) xs)
find-map p f [] = refl
find-map p f (x ∷ xs) = option-if (p (f x)) f x (find (λ y. p (f y)) xs) (find p (map f xs)) (find-map p f xs)

-- a mapped look-up found something: so did the look-up
pub found-map : {A B : Type 0} (f : A → B) (o : Option A) (y : B) → option_map f o ≡ Some y → (x : A) × (o ≡ Some x) × (f x ≡ y)
found-map f None y h = absurd (cc)
found-map f (Some x) y h = (x, refl, some-is (f x) y h)

pub numbered : {A : Type 0} (n : ℕ) (xs : List A) (i : ℕ) (x : A) → slice_get xs i ≡ Some x → slice_get (enumerate_from n xs) i ≡ Some (n + i, x)
numbered n [] i x h = absurd (cc)
numbered n (y ∷ ys) zero x h = ap (λ v. Some (n, v)) (some-is y x h) ∙ ap (λ (m : ℕ). Some (m, x)) (omega arith)
numbered n (y ∷ ys) (suc i) x h = numbered (n + 1) ys i x h ∙ ap (λ (m : ℕ). Some (m, x)) (omega arith)

pub or-more : (a b c d : Bool) → (a ≡ true → c ≡ true) → (b ≡ true → d ≡ true) → (a || b) ≡ true → (c || d) ≡ true
or-more true b c d f g h = ap (λ x. x || d) (f refl)
or-more false b true d f g h = refl
or-more false b false d f g h = g h

-- a test that holds more often passes no less
pub any-more : {A : Type 0} (p q : A → Bool) → ((x : A) → p x ≡ true → q x ≡ true) → (xs : List A) → list_any p xs ≡ true → list_any q xs ≡ true
any-more p q so [] h = h
any-more p q so (x ∷ xs) h = or-more (p x) (list_any p xs) (q x) (list_any q xs) (so x) (any-more p q so xs) h

prefix-map : {A B : Type 0} (p : B → Bool) (f : A → B) (xs : List A) → prefix_len p (map f xs) ≡ prefix_len (λ x. p (f x)) xs
prefix-map p f [] = refl
prefix-map p f (x ∷ xs) = ap (λ n. if p (f x) then 1 + n else 0) (prefix-map p f xs)

pub position-map : {A B : Type 0} (p : B → Bool) (f : A → B) (xs : List A) → position p (map f xs) ≡ position (λ x. p (f x)) xs
position-map p f xs =
    ap (λ n. if nat_lt n (length (map f xs)) then Some n else None) (prefix-map (λ x. not (p x)) f xs)
    ∙ ap (λ n. if nat_lt (position_or_len (λ x. p (f x)) xs) n then Some (position_or_len (λ x. p (f x)) xs) else None) (length-map xs f)

pub all_every : {A : Type 0} (P : A → Type 0) → ((x : A) → P x) → (xs : List A) → AllByRecursion P xs
all_every P every [] = tt
all_every P every (x ∷ xs) = (every x, all_every P every xs)

pub element-at : {A : Type 0} (xs : List A) (i : ℕ) → i < length xs → (x : A) × (slice_get xs i ≡ Some x)
element-at [] i below = absurd (omega arith)
element-at (x ∷ xs) zero below = (x, refl)
element-at (x ∷ xs) (suc i) below = element-at xs i (omega arith)
