-- Marked elements of a list are replaced, one after the other.
use Rattle.std.proofs.Common.{◌≡◌, ℕ, zero, suc, ◌+◌, ◌<◌, ◌≤◌, Bool, true, false, List, [], ◌∷◌, ◌++◌, length, arith, sym, ◌∙◌, ap, refl, append-nil, append_assoc}
use Rattle.std.specs.Prelude.{drop, slice_index, slice_index_or}
use Rattle.passive_form.specs.Local.{replaced}
use Rattle.vc_gen.specs.Emit.{Behind, left}
use Rattle.vc_gen.proofs.Looking.{drop_at_by}

replaced_none : (ms : List Bool) (xs : List ℕ) → replaced ms xs [] ≡ xs
replaced_none [] xs = refl
replaced_none (m ∷ ms) [] = refl
replaced_none (true ∷ ms) (x ∷ xs) = refl
replaced_none (false ∷ ms) (x ∷ xs) = ap (λ r. x ∷ r) (replaced_none ms xs)

head_new : (ms : List Bool) (xs ys : List ℕ) (j : ℕ) → 0 < length xs → slice_index_or ms 0 false ≡ true → j < length ys → replaced ms xs (drop j ys) ≡ slice_index ys j ∷ replaced (drop 1 ms) (drop 1 xs) (drop (suc j) ys)
head_new [] xs ys j l m n = cc
head_new (true ∷ ms) [] ys j l m n = absurd (omega (arith, l))
head_new (true ∷ ms) (x ∷ xs) ys j l m n = by ys j n
  where
    by : (ys : List ℕ) (j : ℕ) → j < length ys → replaced (true ∷ ms) (x ∷ xs) (drop j ys) ≡ slice_index ys j ∷ replaced ms xs (drop (suc j) ys)
    by [] j n = absurd (omega (arith, n))
    by (y ∷ ys) zero n = refl
    by (y ∷ ys) (suc j) n = by ys j (omega (arith, n))
head_new (false ∷ ms) xs ys j l m n = cc

head_old : (ms : List Bool) (xs ys : List ℕ) → 0 < length xs → slice_index_or ms 0 false ≡ false → replaced ms xs ys ≡ slice_index xs 0 ∷ replaced (drop 1 ms) (drop 1 xs) ys
head_old ms [] ys l m = absurd (omega (arith, l))
head_old [] (x ∷ xs) ys l m = refl
head_old (true ∷ ms) (x ∷ xs) ys l m = cc
head_old (false ∷ ms) (x ∷ xs) ys l m = refl

head_spent : (ms : List Bool) (xs : List ℕ) → 0 < length xs → replaced ms xs [] ≡ slice_index xs 0 ∷ replaced (drop 1 ms) (drop 1 xs) []
head_spent ms [] l = absurd (omega (arith, l))
head_spent ms (x ∷ xs) l = replaced_none ms (x ∷ xs) ∙ ap (λ r. x ∷ r) (sym (replaced_none (drop 1 ms) xs))

none_left : (ys : List ℕ) (j : ℕ) → length ys ≤ j → drop j ys ≡ []
none_left [] zero l = refl
none_left [] (suc j) l = refl
none_left (y ∷ ys) zero l = absurd (omega (arith, l))
none_left (y ∷ ys) (suc j) l = none_left ys j (omega (arith, l))

take_new : (ms : List Bool) (xs ys : List ℕ) (i j : ℕ) → i < length xs → slice_index_or ms i false ≡ true → j < length ys → left ms xs ys i j ≡ slice_index ys j ∷ left ms xs ys (suc i) (suc j)
take_new ms xs ys zero j l m n = head_new ms xs ys j l m n
take_new [] xs ys (suc i) j l m n = cc
take_new (m ∷ ms) [] ys (suc i) j l k n = absurd (omega (arith, l))
take_new (m ∷ ms) (x ∷ xs) ys (suc i) j l k n = take_new ms xs ys i j (omega (arith, l)) k n

take_old : (ms : List Bool) (xs ys : List ℕ) (i : ℕ) → i < length xs → slice_index_or ms i false ≡ false → replaced (drop i ms) (drop i xs) ys ≡ slice_index xs i ∷ replaced (drop (suc i) ms) (drop (suc i) xs) ys
take_old ms xs ys zero l m = head_old ms xs ys l m
take_old [] [] ys (suc i) l k = absurd (omega (arith, l))
take_old [] (x ∷ xs) ys (suc i) l k = drop_at_by xs 0 i (omega (arith, l))
take_old (m ∷ ms) [] ys (suc i) l k = absurd (omega (arith, l))
take_old (m ∷ ms) (x ∷ xs) ys (suc i) l k = take_old ms xs ys i (omega (arith, l)) k

take_spent : (ms : List Bool) (xs : List ℕ) (i : ℕ) → i < length xs → replaced (drop i ms) (drop i xs) [] ≡ slice_index xs i ∷ replaced (drop (suc i) ms) (drop (suc i) xs) []
take_spent ms xs zero l = head_spent ms xs l
take_spent [] [] (suc i) l = absurd (omega (arith, l))
take_spent [] (x ∷ xs) (suc i) l = drop_at_by xs 0 i (omega (arith, l))
take_spent (m ∷ ms) [] (suc i) l = absurd (omega (arith, l))
take_spent (m ∷ ms) (x ∷ xs) (suc i) l = take_spent ms xs i (omega (arith, l))

put : (found made : List ℕ) (x : ℕ) (rest whole : List ℕ) → made ≡ found ++ x ∷ [] → found ++ x ∷ rest ≡ whole → made ++ rest ≡ whole
put found made x rest whole h k = ap (λ r. r ++ rest) h ∙ append_assoc found (x ∷ []) rest ∙ k

pub behind_new : (ms : List Bool) (xs ys : List ℕ) (i j x : ℕ) (found made : List ℕ) → i < length xs → slice_index_or ms i false ≡ true → j < length ys → x ≡ slice_index ys j → made ≡ found ++ x ∷ [] → Behind ms xs ys i j found → Behind ms xs ys (i + 1) (j + 1) made
behind_new ms xs ys i j x found made l m n is h (k, b) =
    let one : i + 1 ≡ suc i = omega arith in
    let two : j + 1 ≡ suc j = omega arith in (
      put found made x (left ms xs ys (i + 1) (j + 1)) (replaced ms xs ys) h
          (ap (λ z. found ++ z ∷ left ms xs ys (i + 1) (j + 1)) is ∙ ap (λ z. found ++ slice_index ys j ∷ left ms xs ys z (j + 1)) one ∙ ap (λ z. found ++ slice_index ys j ∷ left ms xs ys (suc i) z) two
          ∙ ap (λ z. found ++ z) (sym (take_new ms xs ys i j l m n)) ∙ k),
      omega (arith, n),
    )

pub behind_old : (ms : List Bool) (xs ys : List ℕ) (i j x : ℕ) (found made : List ℕ) → i < length xs → slice_index_or ms i false ≡ false → x ≡ slice_index xs i → made ≡ found ++ x ∷ [] → Behind ms xs ys i j found → Behind ms xs ys (i + 1) j made
behind_old ms xs ys i j x found made l m is h (k, b) =
    let one : i + 1 ≡ suc i = omega arith in (
      put found made x (left ms xs ys (i + 1) j) (replaced ms xs ys) h
          (ap (λ z. found ++ z ∷ left ms xs ys (i + 1) j) is ∙ ap (λ z. found ++ slice_index xs i ∷ left ms xs ys z j) one ∙ ap (λ z. found ++ z) (sym (take_old ms xs (drop j ys) i l m)) ∙ k),
      b,
    )

pub behind_spent : (ms : List Bool) (xs ys : List ℕ) (i j x : ℕ) (found made : List ℕ) → i < length xs → length ys ≤ j → x ≡ slice_index xs i → made ≡ found ++ x ∷ [] → Behind ms xs ys i j found → Behind ms xs ys (i + 1) j made
behind_spent ms xs ys i j x found made l n is h (k, b) =
    let one : i + 1 ≡ suc i = omega arith in
    let none = none_left ys j n in
    let rest : left ms xs ys i j ≡ slice_index xs i ∷ left ms xs ys (suc i) j =
    ap (replaced (drop i ms) (drop i xs)) none ∙ take_spent ms xs i l ∙ ap (λ z. slice_index xs i ∷ replaced (drop (suc i) ms) (drop (suc i) xs) z) (sym none) in (
      put found made x (left ms xs ys (i + 1) j) (replaced ms xs ys) h
          (ap (λ z. found ++ z ∷ left ms xs ys (i + 1) j) is ∙ ap (λ z. found ++ slice_index xs i ∷ left ms xs ys z j) one ∙ ap (λ z. found ++ z) (sym rest) ∙ k),
      b,
    )

pub behind_whole : (ms : List Bool) (xs ys : List ℕ) (i j : ℕ) (found : List ℕ) → length xs ≤ i → Behind ms xs ys i j found → found ≡ replaced ms xs ys
behind_whole ms xs ys i j found l (k, b) =
    sym (append-nil found) ∙ ap (λ r. found ++ r) (sym (nil (drop i ms) (drop j ys)) ∙ ap (λ z. replaced (drop i ms) z (drop j ys)) (sym (none_left xs i l))) ∙ k
  where
    nil : (ns : List Bool) (zs : List ℕ) → replaced ns [] zs ≡ []
    nil [] zs = refl
    nil (n ∷ ns) zs = refl
