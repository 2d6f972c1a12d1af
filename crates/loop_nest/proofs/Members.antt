-- What the lists of a loop hold.
use Rattle.std.proofs.Common.{◌≡◌, ℕ, zero, suc, ◌+◌, ◌-◌, ◌<◌, ◌≤◌, Bool, true, false, cond, List, [], ◌∷◌, length, map, drop, get_or, ◌⊎◌, inl, inr, refl, sym, ◌∙◌, ap, subst, arith, true≢false, nat_lt, nat_eq}
use Rattle.std.proofs.lemmas.Bool.Decides.{nat_tests}
use Rattle.std.proofs.lemmas.List.{get_or-map, get_or-take, get_or-drop, get_or_past, length-take, length-map}
use Rattle.std.proofs.lemmas.List.Elements.{Contains-append_right}
use Rattle.std.specs.List.{Contains, filter, slice_range}
use Rattle.std.specs.List.Sorted.{IsStrictlyIncreasing}
use Rattle.loop_nest.specs.Listed.{numbers}
use Rattle.loop_nest.specs.Walks.{HasFlag}

-- ---- elements

pub in-tail : {X : Type 0} (y : X) (xs : List X) (x : X) → Contains xs x → Contains (y ∷ xs) x
in-tail y xs x h = Contains-append_right (y ∷ []) xs x h

pub in-head : {X : Type 0} (x : X) (xs : List X) → Contains (x ∷ xs) x
in-head x xs = (0, omega arith, refl)

pub head-or-tail : {X : Type 0} (y : X) (xs : List X) (x : X) → Contains (y ∷ xs) x → (y ≡ x) ⊎ Contains xs x
head-or-tail y xs x (zero, lt, e) = inl e
head-or-tail y xs x (suc k, lt, e) = inr (k, omega arith, e)

pub none-in : {X : Type 0} (x : X) → Contains [] x → ⊥
none-in x (k, lt, e) = omega arith

pub in-map : {X Y : Type 0} (f : X → Y) (xs : List X) (x : X) → Contains xs x → Contains (map f xs) (f x)
in-map f xs x (k, lt, e) = (k, omega (arith, length-map xs f), get_or-map f xs k x (f x) lt ∙ ap f e)

pub in-filter : {X : Type 0} (p : X → Bool) (xs : List X) (x : X) → Contains xs x → p x ≡ true → Contains (filter p xs) x
in-filter p [] x h up = absurd (none-in x h)
in-filter p (y ∷ xs) x h up = by (in-filter p xs x) (head-or-tail y xs x h) (p y) refl
  where
    by : (Contains xs x → p x ≡ true → Contains (filter p xs) x) → (y ≡ x) ⊎ Contains xs x → (t : Bool) → p y ≡ t → Contains (cond t (y ∷ filter p xs) (filter p xs)) x
    by rec (inl e) true s = subst (λ z. Contains (y ∷ filter p xs) z) e (in-head y (filter p xs))
    by rec (inl e) false s = absurd (true≢false (sym up ∙ ap p (sym e) ∙ s))
    by rec (inr h) true s = in-tail y (filter p xs) x (rec h up)
    by rec (inr h) false s = rec h up

-- ---- numbers of flags

tail-flag : (first b : ℕ) (flag : Bool) (flags : List Bool) → first + 1 ≤ b → get_or (flag ∷ flags) (b - first) false ≡ get_or flags (b - (first + 1)) false
tail-flag first b flag flags le = let e : b - first ≡ suc (b - (first + 1)) = omega arith in ap (λ n. get_or (flag ∷ flags) n false) e

first-flag : (first : ℕ) (flag : Bool) (flags : List Bool) → get_or (flag ∷ flags) (first - first) false ≡ flag
first-flag first flag flags = let e : first - first ≡ 0 = omega arith in ap (λ n. get_or (flag ∷ flags) n false) e

pub numbers-up : (first : ℕ) (flags : List Bool) (b : ℕ) → Contains (numbers first flags) b → (first ≤ b) × HasFlag flags (b - first)
numbers-up first [] b h = absurd (none-in b h)
numbers-up first (flag ∷ flags) b h = by flag (numbers-up (first + 1) flags b) h
  where
    later : (f : Bool) → (first + 1 ≤ b) × HasFlag flags (b - (first + 1)) → (first ≤ b) × HasFlag (f ∷ flags) (b - first)
    later f (le, up) = (omega arith, tail-flag first b f flags le ∙ up)

    here : (first ≡ b) ⊎ Contains (numbers (first + 1) flags) b → (Contains (numbers (first + 1) flags) b → (first + 1 ≤ b) × HasFlag flags (b - (first + 1))) → (first ≤ b) × HasFlag (true ∷ flags) (b - first)
    here (inl e) rec = (omega arith, subst (λ (n : ℕ). HasFlag (true ∷ flags) (n - first)) e (first-flag first true flags))
    here (inr k) rec = later true (rec k)

    by : (f : Bool) → (Contains (numbers (first + 1) flags) b → (first + 1 ≤ b) × HasFlag flags (b - (first + 1))) → Contains (cond f (first ∷ numbers (first + 1) flags) (numbers (first + 1) flags)) b → (first ≤ b) × HasFlag (f ∷ flags) (b - first)
    by true rec k = here (head-or-tail first (numbers (first + 1) flags) b k) rec
    by false rec k = later false (rec k)

pub up-numbers : (first : ℕ) (flags : List Bool) (b : ℕ) → first ≤ b → HasFlag flags (b - first) → Contains (numbers first flags) b
up-numbers first [] b le up = absurd (true≢false (sym up))
up-numbers first (flag ∷ flags) b le up = by flag (nat_eq b first) refl (up-numbers (first + 1) flags b) up
  where
    by : (f t : Bool) → nat_eq b first ≡ t → (first + 1 ≤ b → HasFlag flags (b - (first + 1)) → Contains (numbers (first + 1) flags) b) → HasFlag (f ∷ flags) (b - first) → Contains (cond f (first ∷ numbers (first + 1) flags) (numbers (first + 1) flags)) b
    by true true s rec k = let e : first ≡ b = grind (arith, nat_tests) in subst (Contains (first ∷ numbers (first + 1) flags)) e (in-head first (numbers (first + 1) flags))
    by true false s rec k = let le' : first + 1 ≤ b = grind (arith, nat_tests) in in-tail first (numbers (first + 1) flags) b (rec le' (sym (tail-flag first b true flags le') ∙ k))
    by false true s rec k = let e : b ≡ first = grind (arith, nat_tests) in absurd (true≢false (sym k ∙ ap (λ n. get_or (false ∷ flags) (n - first) false) e ∙ first-flag first false flags))
    by false false s rec k = let le' : first + 1 ≤ b = grind (arith, nat_tests) in rec le' (sym (tail-flag first b false flags le') ∙ k)

increasing-cons : (x : ℕ) (xs : List ℕ) → (0 < length xs → x < get_or xs 0 0) → IsStrictlyIncreasing xs → IsStrictlyIncreasing (x ∷ xs)
increasing-cons x xs below h zero lt = below (omega arith)
increasing-cons x xs below h (suc k) lt =
    let e : suc k + 1 ≡ suc (k + 1) = omega arith in
    let le : k + 1 < length xs = omega arith in
    subst (λ (j : ℕ). get_or xs k 0 < get_or (x ∷ xs) j 0) (sym e) (h k le)

-- the first of the numbers
first-number : (first : ℕ) (flags : List Bool) → 0 < length (numbers first flags) → first ≤ get_or (numbers first flags) 0 0
first-number first flags lt = (numbers-up first flags (get_or (numbers first flags) 0 0) (0, lt, sym (same (numbers first flags) lt))).0
  where
    same : (xs : List ℕ) → 0 < length xs → get_or xs 0 0 ≡ get_or xs 0 (get_or xs 0 0)
    same [] lt = absurd (omega arith)
    same (x ∷ xs) lt = refl

pub numbers-increase : (first : ℕ) (flags : List Bool) → IsStrictlyIncreasing (numbers first flags)
numbers-increase first [] = λ k lt. absurd (omega arith)
numbers-increase first (flag ∷ flags) = by flag (numbers-increase (first + 1) flags)
  where
    by : (f : Bool) → IsStrictlyIncreasing (numbers (first + 1) flags) → IsStrictlyIncreasing (cond f (first ∷ numbers (first + 1) flags) (numbers (first + 1) flags))
    by true rec = increasing-cons first (numbers (first + 1) flags) (λ lt. let h = first-number (first + 1) flags lt in omega arith) rec
    by false rec = rec

-- ---- a range of flags

pub range-flag : (flags : List Bool) (from to b : ℕ) → from ≤ b → HasFlag (slice_range flags from to) (b - from) → (b < to) × HasFlag flags b
range-flag flags from to b le up = by (nat_lt b to) refl
  where
    by : (t : Bool) → nat_lt b to ≡ t → (b < to) × HasFlag flags b
    by true s =
        let lt : b < to = grind (arith, nat_tests) in
        let at : from + (b - from) ≡ b = omega arith in
        (lt, ap (λ n. get_or flags n false) (sym at) ∙ sym (get_or-drop from flags (b - from) false) ∙ sym (get_or-take (to - from) (drop from flags) (b - from) false (omega arith)) ∙ up)
    by false s =
        let ge : to ≤ b = grind (arith, nat_tests) in
        let size = length-take (to - from) (drop from flags) in
        absurd (true≢false (sym up ∙ get_or_past (slice_range flags from to) (b - from) false (omega arith)))

pub flag-range : (flags : List Bool) (from to b : ℕ) → from ≤ b → b < to → HasFlag flags b → HasFlag (slice_range flags from to) (b - from)
flag-range flags from to b le lt up =
    let at : from + (b - from) ≡ b = omega arith in
    get_or-take (to - from) (drop from flags) (b - from) false (omega arith) ∙ get_or-drop from flags (b - from) false ∙ ap (λ n. get_or flags n false) at ∙ up
