-- Lists with marks: one place on.
use Rattle.std.proofs.Common.{◌≡◌, ℕ, zero, suc, ◌+◌, ◌<◌, ◌≤◌, Bool, true, false, List, [], ◌∷◌, ◌++◌, length, drop, arith, sym, ◌∙◌, ap, refl}
use Rattle.std.specs.Prelude.{Option, None, Some, slice_get, slice_index_or}
use Rattle.passive_form.specs.Local.{picked, replaced}
use Rattle.passive_form.proofs.Loops.{rest_at_by, rest_none}
use Rattle.passive_form.specs.Drafts.{is_marked, replacement}

picked_yes_by : {A : Type 0} (ms : List Bool) (xs : List A) (i : ℕ) (d : A) → i < length xs → is_marked (slice_get ms i) ≡ true → picked (drop i ms) (drop i xs) ≡ slice_index_or xs i d ∷ picked (drop (suc i) ms) (drop (suc i) xs)
picked_yes_by [] xs i d l h = cc
picked_yes_by (m ∷ ms) [] i d l h = absurd (omega (arith, l))
picked_yes_by (true ∷ ms) (x ∷ xs) zero d l h = refl
picked_yes_by (false ∷ ms) (x ∷ xs) zero d l h = cc
picked_yes_by (m ∷ ms) (x ∷ xs) (suc i) d l h = picked_yes_by ms xs i d (omega (arith, l)) h

picked_no_by : {A : Type 0} (ms : List Bool) (xs : List A) (i : ℕ) → i < length xs → is_marked (slice_get ms i) ≡ false → picked (drop i ms) (drop i xs) ≡ picked (drop (suc i) ms) (drop (suc i) xs)
picked_no_by [] (x ∷ xs) zero l h = refl
picked_no_by [] (x ∷ xs) (suc i) l h = refl
picked_no_by ms [] i l h = absurd (omega (arith, l))
picked_no_by (true ∷ ms) (x ∷ xs) zero l h = cc
picked_no_by (false ∷ ms) (x ∷ xs) zero l h = refl
picked_no_by (m ∷ ms) (x ∷ xs) (suc i) l h = picked_no_by ms xs i (omega (arith, l)) h

pub picked_yes : {A : Type 0} (ms : List Bool) (xs : List A) (i : ℕ) (d : A) → i < length xs → is_marked (slice_get ms i) ≡ true → picked (drop i ms) (drop i xs) ≡ slice_index_or xs i d ∷ picked (drop (i + 1) ms) (drop (i + 1) xs)
picked_yes ms xs i d l h = let n : suc i ≡ i + 1 = omega arith in picked_yes_by ms xs i d l h ∙ ap (λ n. slice_index_or xs i d ∷ picked (drop n ms) (drop n xs)) n

pub picked_no : {A : Type 0} (ms : List Bool) (xs : List A) (i : ℕ) → i < length xs → is_marked (slice_get ms i) ≡ false → picked (drop i ms) (drop i xs) ≡ picked (drop (i + 1) ms) (drop (i + 1) xs)
picked_no ms xs i l h = let n : suc i ≡ i + 1 = omega arith in picked_no_by ms xs i l h ∙ ap (λ n. picked (drop n ms) (drop n xs)) n

-- the second list by its first element and the others
abbrev head_of : List ℕ → Option ℕ
head_of [] = None
head_of (y ∷ ys) = Some y

abbrev tail_of : List ℕ → List ℕ
tail_of [] = []
tail_of (y ∷ ys) = ys

head_is : (ys : List ℕ) (u : ℕ) → slice_get ys u ≡ head_of (drop u ys)
head_is [] zero = refl
head_is [] (suc u) = refl
head_is (y ∷ ys) zero = refl
head_is (y ∷ ys) (suc u) = head_is ys u

tail_is : (ys : List ℕ) (u : ℕ) → drop (suc u) ys ≡ tail_of (drop u ys)
tail_is [] zero = refl
tail_is [] (suc u) = refl
tail_is (y ∷ ys) zero = refl
tail_is (y ∷ ys) (suc u) = tail_is ys u

replaced_nil : (ms : List Bool) (xs : List ℕ) → replaced ms xs [] ≡ xs
replaced_nil [] xs = refl
replaced_nil (m ∷ ms) [] = refl
replaced_nil (true ∷ ms) (x ∷ xs) = refl
replaced_nil (false ∷ ms) (x ∷ xs) = ap (λ r. x ∷ r) (replaced_nil ms xs)

some_by : (ms : List Bool) (xs zs : List ℕ) (i v : ℕ) → i < length xs → replacement (is_marked (slice_get ms i)) (head_of zs) ≡ Some v → replaced (drop i ms) (drop i xs) zs ≡ v ∷ replaced (drop (suc i) ms) (drop (suc i) xs) (tail_of zs)
some_by [] xs zs i v l h = cc
some_by (m ∷ ms) [] zs i v l h = absurd (omega (arith, l))
some_by (true ∷ ms) (x ∷ xs) [] zero v l h = cc
some_by (true ∷ ms) (x ∷ xs) (z ∷ zs) zero v l h = cc
some_by (false ∷ ms) (x ∷ xs) zs zero v l h = cc
some_by (m ∷ ms) (x ∷ xs) zs (suc i) v l h = some_by ms xs zs i v (omega (arith, l)) h

none_by : (ms : List Bool) (xs zs : List ℕ) (i d : ℕ) → i < length xs → replacement (is_marked (slice_get ms i)) (head_of zs) ≡ None → replaced (drop i ms) (drop i xs) zs ≡ slice_index_or xs i d ∷ replaced (drop (suc i) ms) (drop (suc i) xs) zs
none_by ms [] zs i d l h = absurd (omega (arith, l))
none_by [] (x ∷ xs) zs zero d l h = refl
none_by [] (x ∷ xs) zs (suc i) d l h = rest_at_by xs i d (omega (arith, l))
none_by (true ∷ ms) (x ∷ xs) [] zero d l h = ap (λ r. x ∷ r) (sym (replaced_nil ms xs))
none_by (true ∷ ms) (x ∷ xs) (z ∷ zs) zero d l h = cc
none_by (false ∷ ms) (x ∷ xs) zs zero d l h = refl
none_by (m ∷ ms) (x ∷ xs) zs (suc i) d l h = none_by ms xs zs i d (omega (arith, l)) h

pub replaced_some : (ms : List Bool) (xs ys : List ℕ) (i u v : ℕ) → i < length xs → replacement (is_marked (slice_get ms i)) (slice_get ys u) ≡ Some v →
    replaced (drop i ms) (drop i xs) (drop u ys) ≡ v ∷ replaced (drop (i + 1) ms) (drop (i + 1) xs) (drop (u + 1) ys)
replaced_some ms xs ys i u v l h =
    let n : suc i ≡ i + 1 = omega arith in
    let w : suc u ≡ u + 1 = omega arith in
    some_by ms xs (drop u ys) i v l (ap (replacement (is_marked (slice_get ms i))) (sym (head_is ys u)) ∙ h)
    ∙ ap (λ zs. v ∷ replaced (drop (suc i) ms) (drop (suc i) xs) zs) (sym (tail_is ys u))
    ∙ ap (λ n. v ∷ replaced (drop n ms) (drop n xs) (drop (suc u) ys)) n
    ∙ ap (λ w. v ∷ replaced (drop (i + 1) ms) (drop (i + 1) xs) (drop w ys)) w

pub replaced_none : (ms : List Bool) (xs ys : List ℕ) (i u d : ℕ) → i < length xs → replacement (is_marked (slice_get ms i)) (slice_get ys u) ≡ None →
    replaced (drop i ms) (drop i xs) (drop u ys) ≡ slice_index_or xs i d ∷ replaced (drop (i + 1) ms) (drop (i + 1) xs) (drop u ys)
replaced_none ms xs ys i u d l h =
    let n : suc i ≡ i + 1 = omega arith in
    none_by ms xs (drop u ys) i d l (ap (replacement (is_marked (slice_get ms i))) (sym (head_is ys u)) ∙ h)
    ∙ ap (λ n. slice_index_or xs i d ∷ replaced (drop n ms) (drop n xs) (drop u ys)) n

-- at the end
nothing_picked : {A : Type 0} (ms : List Bool) → picked {A = A} ms [] ≡ []
nothing_picked [] = refl
nothing_picked (m ∷ ms) = refl

nothing_replaced : (ms : List Bool) (zs : List ℕ) → replaced ms [] zs ≡ []
nothing_replaced [] zs = refl
nothing_replaced (m ∷ ms) zs = refl

pub picked_end : {A : Type 0} (ms : List Bool) (xs : List A) (i : ℕ) → length xs ≤ i → picked (drop i ms) (drop i xs) ≡ []
picked_end ms xs i l = ap (λ ys. picked (drop i ms) ys) (rest_none xs i l) ∙ nothing_picked (drop i ms)

pub replaced_end : (ms : List Bool) (xs zs : List ℕ) (i : ℕ) → length xs ≤ i → replaced (drop i ms) (drop i xs) zs ≡ []
replaced_end ms xs zs i l = ap (λ ys. replaced (drop i ms) ys zs) (rest_none xs i l) ∙ nothing_replaced (drop i ms) zs
