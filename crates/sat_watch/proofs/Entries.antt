-- What stands in a list, in its fronts, and in what is left of it.
use Rattle.std.proofs.Common.{◌≡◌, ℕ, zero, suc, ◌+◌, ◌-◌, ◌==◌, ◌<◌, true, false, not, ◌||◌, List, [], ◌∷◌, ◌++◌, Some, length, take, get_or, slice_get, refl, ap, sym, ◌∙◌, arith, inl, inr, ◌⊎◌, length-take, take_all}
use Rattle.std.proofs.lemmas.Bool.{cases_Bool, cases_eq, cases_lt, or_cases, or_left, or_right, or_parts, and_parts, eqb-true, false≢true}
use Rattle.std.proofs.lemmas.List.{take-take}
use Rattle.std.proofs.lemmas.List.Folds.{list_any-append}
use Rattle.cnf_form.specs.Literal.{negation, is_among, is_distinct}
use Rattle.cnf_form.proofs.Trails.{is_among-push, is_distinct-push, negation-negation}
use Rattle.sat_watch.specs.Watching.{IsTrail}

-- where a number is among others
pub among_at : (xs : List ℕ) (m : ℕ) → is_among xs m ≡ true → (k : ℕ) × (k < length xs) × (get_or xs k 0 ≡ m)
among_at [] m h = absurd (false≢true h)
among_at (x ∷ xs) m h =
    elim (cases_Bool (x == m)) [
      | inl e ↦ (0, omega arith, eqb-true x m e)
      | inr e ↦ let at = among_at xs m (grind (arith, or_cases)) in (suc at.0, omega (arith, at.1), at.2)
    ]

pub at_among : (xs : List ℕ) (m k : ℕ) → k < length xs → get_or xs k 0 ≡ m → is_among xs m ≡ true
at_among [] m k l h = absurd (omega arith)
at_among (x ∷ xs) m zero l h = grind arith
at_among (x ∷ xs) m (suc k) l h = let ih = at_among xs m k (omega arith) h in grind arith

-- the last one put in the place of another
pub among_left : (xs ys : List ℕ) (i : ℕ) → i < length xs → length ys + 1 ≡ length xs → (i + 1 < length xs → get_or ys i 0 ≡ get_or xs (length xs - 1) 0) → ((k : ℕ) → (k ≡ i → ⊥) → k + 1 < length xs → get_or ys k 0 ≡ get_or xs k 0) → (m : ℕ) → is_among xs m ≡ true → (is_among ys m ≡ true) ⊎ (m ≡ get_or xs i 0)
among_left xs ys i l e last same m a =
    let at = among_at xs m a in
    elim (cases_eq at.0 i) [
      | inl z ↦ inr (sym at.2 ∙ ap (λ j. get_or xs j 0) z)
      | inr n ↦ elim (cases_lt (at.0 + 1) (length xs)) [
        | inl b ↦ let k : at.0 < length ys = omega (arith, e, b) in inl (at_among ys m at.0 k (same at.0 n b ∙ at.2))
        | inr b ↦
            let q : at.0 ≡ length xs - 1 = omega (arith, at.1, b) in
            let p : i + 1 < length xs = omega (arith, n, q, l) in
            let k : i < length ys = omega (arith, e, p) in
            inl (at_among ys m i k (last p ∙ ap (λ j. get_or xs j 0) (sym q) ∙ at.2))
      ]
    ]

pub among-take : (xs : List ℕ) (n m : ℕ) → is_among xs m ≡ false → is_among (take n xs) m ≡ false
among-take xs zero m h = refl
among-take [] (suc n) m h = refl
among-take (x ∷ xs) (suc n) m h = grind (arith, among-take xs n m, or_parts)

pub among_whole : (xs : List ℕ) (n m : ℕ) → is_among (take n xs) m ≡ true → is_among xs m ≡ true
among_whole xs n m a = elim (cases_Bool (is_among xs m)) [ inl y ↦ y | inr y ↦ absurd (false≢true (sym (among-take xs n m y) ∙ a)) ]

pub distinct-take : (xs : List ℕ) (n : ℕ) → is_distinct xs ≡ true → is_distinct (take n xs) ≡ true
distinct-take xs zero d = refl
distinct-take [] (suc n) d = refl
distinct-take (x ∷ xs) (suc n) d = grind (arith, distinct-take xs n, among-take xs n x, and_parts)

pub among-append : (xs ys : List ℕ) (m : ℕ) → is_among (xs ++ ys) m ≡ (is_among xs m || is_among ys m)
among-append xs ys m = list_any-append (λ q. q == m) xs ys

pub among_front : (xs ys : List ℕ) (m : ℕ) → is_among xs m ≡ true → is_among (xs ++ ys) m ≡ true
among_front xs ys m a = among-append xs ys m ∙ or_left _ _ a

-- no literal of a front stands behind it
pub distinct_next : (xs : List ℕ) (y : ℕ) (ys : List ℕ) → is_distinct (xs ++ y ∷ ys) ≡ true → is_among xs y ≡ false
distinct_next [] y ys d = refl
distinct_next (x ∷ xs) y ys d =
    let p = and_parts (not (is_among (xs ++ y ∷ ys) x)) (is_distinct (xs ++ y ∷ ys)) d in
    let ih = distinct_next xs y ys p.1 in
    elim (cases_Bool (x == y)) [
      | inl e ↦
          let z = eqb-true x y e in
          let here : is_among (xs ++ y ∷ ys) x ≡ true = among-append xs (y ∷ ys) x ∙ or_right (is_among xs x) (is_among (y ∷ ys) x) (grind (arith, z)) in
          absurd (false≢true (grind (arith, here, p.0)))
      | inr e ↦ grind (arith, e, ih)
    ]

-- fronts of a list behind a front
pub take-append : (n : ℕ) (xs ys : List ℕ) → take n (xs ++ ys) ≡ take n xs ++ take (n - length xs) ys
take-append zero xs ys = let e : 0 - length xs ≡ 0 = omega arith in rw e refl
take-append (suc n) [] ys = let e : suc n - 0 ≡ suc n = omega arith in rw e refl
take-append (suc n) (x ∷ xs) ys = let e : suc n - suc (length xs) ≡ n - length xs = omega arith in rw e (ap (λ (r : List ℕ). x ∷ r) (take-append n xs ys))

pub take_of_take : (k n : ℕ) (xs : List ℕ) → (j : ℕ) × (take k (take n xs) ≡ take j xs)
take_of_take k n xs = elim (cases_lt n k) [
  | inl b ↦ (n, take_all k (take n xs) (omega (arith, length-take n xs)))
  | inr b ↦ (k, take-take k n xs b)
]

pub get_more : (cs ds : List (List ℕ)) (id : ℕ) (c : List ℕ) → slice_get cs id ≡ Some c → slice_get (cs ++ ds) id ≡ Some c
get_more [] ds id c h = absurd (cc)
get_more (d ∷ cs) ds zero c h = h
get_more (d ∷ cs) ds (suc id) c h = get_more cs ds id c h

pub trail_push : (t : List ℕ) (l : ℕ) → IsTrail t → is_among t l ≡ false → is_among t (negation l) ≡ false → IsTrail (t ++ l ∷ [])
trail_push t l p a b = record {
  distinct = is_distinct-push t l a p.distinct;
  consistent = λ m h. elim (or_cases (is_among t m) (l == m) (sym (is_among-push t l m) ∙ h)) [
    | inl y ↦
        let no = p.consistent m y in
        elim (cases_Bool (l == negation m)) [
          | inl e ↦
              let z : negation l ≡ m = ap negation (eqb-true l (negation m) e) ∙ negation-negation m in
              absurd (false≢true (sym b ∙ ap (is_among t) z ∙ y))
          | inr e ↦ is_among-push t l (negation m) ∙ grind (arith, no, e)
        ]
    | inr y ↦
        let z : l ≡ m = eqb-true l m y in
        let no : is_among t (negation m) ≡ false = ap (λ x. is_among t (negation x)) (sym z) ∙ b in
        let apart : (l == negation m) ≡ false = ap (λ x. x == negation m) z ∙ self_apart m in
        is_among-push t l (negation m) ∙ grind (arith, no, apart)
  ];
}
  where
    self_apart : (m : ℕ) → (m == negation m) ≡ false
    self_apart m = grind arith

pub trail_take : (t : List ℕ) (n : ℕ) → IsTrail t → IsTrail (take n t)
trail_take t n p = record {
  distinct = distinct-take t n p.distinct;
  consistent = λ m h. among-take t n (negation m) (p.consistent m (among_whole t n m h));
}
