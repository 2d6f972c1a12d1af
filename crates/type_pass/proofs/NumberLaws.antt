-- Places in lists.
use Rattle.std.proofs.Common.{◌≡◌, ℕ, suc, ◌+◌, ◌<◌, Bool, true, false, not, List, [], ◌∷◌, ◌++◌, length, map, take, get_or, Option, Some, None, refl, sym, ◌∙◌, ap, arith, true≢false, Bor, cond, length-take-le}
use Rattle.std.proofs.lemmas.Bool.Decides.{nat_tests, same_from_decides}
use Rattle.std.proofs.lemmas.List.{map_more}
use Rattle.std.proofs.lemmas.Slice.Eq.{bytes_eq-Decides}
use Rattle.std.specs.Prelude.{position, if◌then◌else◌, nat_lt, option_map, is_some, slice_get, find, filter_map}
use Rattle.std.specs.List.{position_or_len, cons_option}
use Rattle.std.specs.Option.{option_or, option_and_then}
use Rattle.std.specs.Str.{bytes_eq}

-- the place of the first that passes, counted from the front
abbrev pub place : {A : Type 0} → (A → Bool) → List A → Option ℕ
place p [] = None
place p (x ∷ xs) = if p x then Some 0 else option_map suc (place p xs)

step-test : (k n : ℕ) → cond (nat_lt (1 + k) (suc n)) (Some (1 + k)) None ≡ option_map suc (cond (nat_lt k n) (Some k) None)
step-test k n = by (nat_lt k n) refl
  where
    by : (b : Bool) → nat_lt k n ≡ b → cond (nat_lt (1 + k) (suc n)) (Some (1 + k)) None ≡ option_map suc (cond (nat_lt k n) (Some k) None)
    by true e =
        let up : nat_lt (1 + k) (suc n) ≡ true = grind (arith, nat_tests) in
        let same : 1 + k ≡ suc k = omega arith in
        ap (λ b. cond b (Some (1 + k)) None) up ∙ ap Some same ∙ sym (ap (λ b. option_map suc (cond b (Some k) None)) e)
    by false e =
        let up : nat_lt (1 + k) (suc n) ≡ false = grind (arith, nat_tests) in
        ap (λ b. cond b (Some (1 + k)) None) up ∙ sym (ap (λ b. option_map suc (cond b (Some k) None)) e)

pub position-place : {A : Type 0} (p : A → Bool) (xs : List A) → position p xs ≡ place p xs
position-place p [] = refl
position-place p (x ∷ xs) = by (p x) refl (position-place p xs)
  where
    by : (b : Bool) → p x ≡ b → position p xs ≡ place p xs → position p (x ∷ xs) ≡ place p (x ∷ xs)
    by true e h =
        let z : position_or_len p (x ∷ xs) ≡ 0 = ap (λ b. cond (not b) (1 + position_or_len p xs) 0) e in
        let lt : nat_lt 0 (suc (length xs)) ≡ true = grind (arith, nat_tests) in
        ap (λ k. cond (nat_lt k (suc (length xs))) (Some k) None) z ∙ ap (λ b. cond b (Some 0) None) lt ∙ sym (ap (λ b. if b then Some 0 else option_map suc (place p xs)) e)
    by false e h =
        let z : position_or_len p (x ∷ xs) ≡ 1 + position_or_len p xs = ap (λ b. cond (not b) (1 + position_or_len p xs) 0) e in
        ap (λ k. cond (nat_lt k (suc (length xs))) (Some k) None) z ∙ step-test (position_or_len p xs) (length xs) ∙ ap (option_map suc) h
        ∙ sym (ap (λ b. if b then Some 0 else option_map suc (place p xs)) e)

place-push : {A : Type 0} (p : A → Bool) (xs : List A) (y : A) → place p (xs ++ y ∷ []) ≡ option_or (place p xs) (if p y then Some (length xs) else None)
place-push p [] y = refl
place-push p (x ∷ xs) y = by (p x) (place p xs) (p y) (place-push p xs y)
  where
    by : (b : Bool) (o : Option ℕ) (c : Bool) → place p (xs ++ y ∷ []) ≡ option_or o (if c then Some (length xs) else None)
        → (if b then Some 0 else option_map suc (place p (xs ++ y ∷ []))) ≡ option_or (if b then Some 0 else option_map suc o) (if c then Some (suc (length xs)) else None)
    by true o c h = refl
    by false (Some k) c h = ap (option_map suc) h
    by false None true h = ap (option_map suc) h
    by false None false h = ap (option_map suc) h

pub position-push : {A : Type 0} (p : A → Bool) (xs : List A) (y : A) → position p (xs ++ y ∷ []) ≡ option_or (position p xs) (if p y then Some (length xs) else None)
position-push p xs y = position-place p (xs ++ y ∷ []) ∙ place-push p xs y ∙ sym (ap (λ o. option_or o (if p y then Some (length xs) else None)) (position-place p xs))

place-map : {A B : Type 0} (p : B → Bool) (f : A → B) (xs : List A) → place p (map f xs) ≡ place (λ x. p (f x)) xs
place-map p f [] = refl
place-map p f (x ∷ xs) = ap (λ o. if p (f x) then Some 0 else option_map suc o) (place-map p f xs)

pub position-map : {A B : Type 0} (p : B → Bool) (f : A → B) (xs : List A) → position p (map f xs) ≡ position (λ x. p (f x)) xs
position-map p f xs = position-place p (map f xs) ∙ place-map p f xs ∙ sym (position-place (λ x. p (f x)) xs)

find-place : {A : Type 0} (p : A → Bool) (xs : List A) → find p xs ≡ option_and_then (slice_get xs) (place p xs)
find-place p [] = refl
find-place p (x ∷ xs) = by (p x) (place p xs) (find-place p xs)
  where
    by : (b : Bool) (o : Option ℕ) → find p xs ≡ option_and_then (slice_get xs) o → cond b (Some x) (find p xs) ≡ option_and_then (slice_get (x ∷ xs)) (if b then Some 0 else option_map suc o)
    by true o h = refl
    by false None h = h
    by false (Some k) h = h

-- the first that passes stands at its place
pub find-position : {A : Type 0} (p : A → Bool) (xs : List A) → find p xs ≡ option_and_then (slice_get xs) (position p xs)
find-position p xs = find-place p xs ∙ ap (option_and_then (slice_get xs)) (sym (position-place p xs))

place-within : {A : Type 0} (p : A → Bool) (xs : List A) (i : ℕ) → place p xs ≡ Some i → i < length xs
place-within p [] i h = absurd (cc)
place-within p (x ∷ xs) i h = by (p x) (place p xs) refl h (place-within p xs)
  where
    by : (b : Bool) (o : Option ℕ) → place p xs ≡ o → (if b then Some 0 else option_map suc o) ≡ Some i → ((k : ℕ) → place p xs ≡ Some k → k < length xs) → i < suc (length xs)
    by true o e f inner = let z : 0 ≡ i = cc in omega arith
    by false None e f inner = absurd (cc)
    by false (Some k) e f inner =
        let lt = inner k e in
        let z : suc k ≡ i = cc in
        omega arith

pub position-within : {A : Type 0} (p : A → Bool) (xs : List A) (i : ℕ) → position p xs ≡ Some i → i < length xs
position-within p xs i h = place-within p xs i (sym (position-place p xs) ∙ h)

-- ---- one name more

-- the texts behind references
abbrev pub texts : List (Bor (List ℕ)) → List (List ℕ)
texts names = map (λ t. t.now) names

or-none : {A : Type 0} (o : Option A) → option_or o None ≡ o
or-none None = refl
or-none (Some k) = refl

pub bytes_eq-sym : (s t : List ℕ) → bytes_eq s t ≡ bytes_eq t s
bytes_eq-sym s t = same_from_decides (bytes_eq s t) (bytes_eq t s) (bytes_eq-Decides s t) (λ e. sym ((bytes_eq-Decides t s).0 e), λ e. (bytes_eq-Decides t s).1 (sym e))

-- a name that has a place keeps it
pub name-known : (o : List ℕ → Option ℕ) (name text : List ℕ) (k : ℕ) → is_some (o name) ≡ true → o text ≡ option_or (o text) (if bytes_eq text name then Some k else None)
name-known o name text k known = by (bytes_eq text name) refl
  where
    there : (p : Option ℕ) → is_some p ≡ true → p ≡ option_or p (Some k)
    there None h = absurd (true≢false (sym h))
    there (Some i) h = refl

    by : (b : Bool) → bytes_eq text name ≡ b → o text ≡ option_or (o text) (if b then Some k else None)
    by false same = sym (or-none (o text))
    by true same = there (o text) (ap (λ t. is_some (o t)) ((bytes_eq-Decides text name).0 same) ∙ known)

-- a name without a place gets one
pub name-new : (o n : List ℕ → Option ℕ) (name text : List ℕ) (k : ℕ) → is_some (o name) ≡ false → n text ≡ cond (bytes_eq name text) (Some k) (o text)
    → n text ≡ option_or (o text) (if bytes_eq text name then Some k else None)
name-new o n name text k absent h = h ∙ ap (λ b. cond b (Some k) (o text)) (bytes_eq-sym name text) ∙ by (bytes_eq text name) refl
  where
    not-there : (p : Option ℕ) → is_some p ≡ false → Some k ≡ option_or p (Some k)
    not-there None h = refl
    not-there (Some i) h = absurd (true≢false h)

    by : (b : Bool) → bytes_eq text name ≡ b → cond b (Some k) (o text) ≡ option_or (o text) (if b then Some k else None)
    by false same = sym (or-none (o text))
    by true same = not-there (o text) (ap (λ t. is_some (o t)) ((bytes_eq-Decides text name).0 same) ∙ absent)

-- the texts so far, and one more
pub texts-more : (names : List (Bor (List ℕ))) (i : ℕ) (d : Bor (List ℕ)) (text : List ℕ) (old new : Option ℕ) → i < length names
    → old ≡ position (bytes_eq text) (texts (take i names)) → new ≡ option_or old (if bytes_eq text (get_or names i d).now then Some i else None)
    → new ≡ position (bytes_eq text) (texts (take (i + 1) names))
texts-more names i d text old new within before more =
    let n = get_or names i d in
    let e : texts (take (i + 1) names) ≡ texts (take i names) ++ n.now ∷ [] = map_more (λ t. t.now) names i d within in
    let l : length (texts (take i names)) ≡ i = length-texts names i within in
    more ∙ ap (λ o. option_or o (if bytes_eq text n.now then Some i else None)) before
    ∙ ap (λ k. option_or (position (bytes_eq text) (texts (take i names))) (if bytes_eq text n.now then Some k else None)) (sym l)
    ∙ sym (position-push (bytes_eq text) (texts (take i names)) n.now) ∙ ap (position (bytes_eq text)) (sym e)
  where
    length-map : {A B : Type 0} (f : A → B) (xs : List A) → length (map f xs) ≡ length xs
    length-map f [] = refl
    length-map f (x ∷ xs) = ap suc (length-map f xs)

    length-texts : (ns : List (Bor (List ℕ))) (j : ℕ) → j < length ns → length (texts (take j ns)) ≡ j
    length-texts ns j w = length-map (λ t. t.now) (take j ns) ∙ length-take-le j ns (omega arith)

cons-append : {B : Type 0} (o : Option B) (bs cs ds : List B) → ds ≡ bs ++ cs → cons_option o ds ≡ cons_option o bs ++ cs
cons-append None bs cs ds h = h
cons-append (Some b) bs cs ds h = ap (λ es. b ∷ es) h

pub filter_map-append : {A B : Type 0} (f : A → Option B) (xs ys : List A) → filter_map f (xs ++ ys) ≡ filter_map f xs ++ filter_map f ys
filter_map-append f [] ys = refl
filter_map-append f (x ∷ xs) ys = cons-append (f x) (filter_map f xs) (filter_map f ys) (filter_map f (xs ++ ys)) (filter_map-append f xs ys)
