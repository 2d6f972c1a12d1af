-- An order of all blocks with no more numbers than there are blocks has no block twice.
use Rattle.std.proofs.Common.{◌≡◌, ℕ, suc, ◌<◌, ◌≤◌, Bool, true, false, not, nat_eq, cond, List, [], ◌∷◌, ◌++◌, length, slice_get, Some, refl, sym, ap, ◌∙◌, subst, ⊎_elim, arith, append_assoc, length-append}
use Rattle.std.specs.Prelude.{◌||◌}
use Rattle.std.proofs.lemmas.Bool.{and_from, or_cases, or_left, or_right, not_from_false, eq-eqb, eqb-true, false_from_ne_true}
use Rattle.std.proofs.lemmas.Option.{slice_get_within}
use Rattle.indexmap.proofs.IndexTableLemmas.Probe.{pigeonhole}
use Rattle.flat_prog.specs.Ordering.{is_in}
use Rattle.flat_prog.specs.Once.{has_number, numbers_differ}
use Rattle.vc_gen.specs.Whole.{BlocksStandOnce}

-- the place of a number in a list
abbrev place_of : List ℕ → ℕ → ℕ
place_of [] n = 0
place_of (x ∷ xs) n = cond (nat_eq n x) 0 (suc (place_of xs n))

or_rest : (a b : Bool) → (a || b) ≡ true → a ≡ false → b ≡ true
or_rest true b h f = cc
or_rest false b h f = h

placed : (xs : List ℕ) (n : ℕ) → is_in n xs ≡ true → slice_get xs (place_of xs n) ≡ Some n
placed [] n h = cc
placed (x ∷ xs) n h = by (nat_eq n x) refl (λ k. placed xs n k)
  where
    by : (b : Bool) → nat_eq n x ≡ b → (is_in n xs ≡ true → slice_get xs (place_of xs n) ≡ Some n) → slice_get (x ∷ xs) (cond b 0 (suc (place_of xs n))) ≡ Some n
    by true e rest = ap (λ (m : ℕ). Some m) (sym (eqb-true n x e))
    by false e rest = rest (or_rest (nat_eq n x) (is_in n xs) h e)

same_number : (i j : ℕ) → Some i ≡ Some j → i ≡ j
same_number i j h = cc

-- a list with all numbers below a bound has as many
covers : (xs : List ℕ) (bound : ℕ) → ((n : ℕ) → n < bound → is_in n xs ≡ true) → bound ≤ length xs
covers xs bound h =
    pigeonhole bound (length xs) (place_of xs) (λ n l. slice_get_within xs (place_of xs n) n (placed xs n (h n l)))
    (λ i j li lj e. same_number i j (sym (placed xs i (h i li)) ∙ ap (slice_get xs) e ∙ placed xs j (h j lj)))

is_among : (xs : List ℕ) (n : ℕ) → has_number xs n ≡ true → is_in n xs ≡ true
is_among [] n h = cc
is_among (x ∷ xs) n h =
    ⊎_elim (λ e. or_left (nat_eq n x) (is_in n xs) (eq-eqb n x (sym (eqb-true x n e)))) (λ e. or_right (nat_eq n x) (is_in n xs) (is_among xs n e)) (or_cases (nat_eq x n) (has_number xs n) h)

-- a number that stands behind once more can be left out
left_out : (pre xs : List ℕ) (x n : ℕ) → is_in x xs ≡ true → is_in n (pre ++ x ∷ xs) ≡ true → is_in n (pre ++ xs) ≡ true
left_out [] xs x n h k = ⊎_elim (λ e. subst (λ (m : ℕ). is_in m xs ≡ true) (sym (eqb-true n x e)) h) (λ e. e) (or_cases (nat_eq n x) (is_in n xs) k)
left_out (p ∷ pre) xs x n h k =
    ⊎_elim (λ e. or_left (nat_eq n p) (is_in n (pre ++ xs)) e) (λ e. or_right (nat_eq n p) (is_in n (pre ++ xs)) (left_out pre xs x n h e)) (or_cases (nat_eq n p) (is_in n (pre ++ x ∷ xs)) k)

differ : (pre xs : List ℕ) (bound : ℕ) → ((n : ℕ) → n < bound → is_in n (pre ++ xs) ≡ true) → length (pre ++ xs) ≤ bound → numbers_differ xs ≡ true
differ pre [] bound h l = refl
differ pre (x ∷ xs) bound h l =
    let moved : (pre ++ x ∷ []) ++ xs ≡ pre ++ x ∷ xs = append_assoc pre (x ∷ []) xs in
    and_from (not (has_number xs x)) (numbers_differ xs) (not_from_false (has_number xs x) (false_from_ne_true (has_number xs x) (twice pre x xs bound h l)))
    (differ (pre ++ x ∷ []) xs bound (λ n i. subst (λ (ys : List ℕ). is_in n ys ≡ true) (sym moved) (h n i)) (omega (arith, l, ap length moved)))
  where
    twice : (pre : List ℕ) (x : ℕ) (xs : List ℕ) (bound : ℕ) → ((n : ℕ) → n < bound → is_in n (pre ++ x ∷ xs) ≡ true) → length (pre ++ x ∷ xs) ≤ bound → has_number xs x ≡ true → ⊥
    twice pre x xs bound h l e =
        let few = covers (pre ++ xs) bound (λ n i. left_out pre xs x n (is_among xs x e) (h n i)) in
        absurd (omega (arith, few, l, length-append pre xs, length-append pre (x ∷ xs)))

pub once : BlocksStandOnce
once flat q p is = differ [] is.order (length q.blocks) is.ordered.every is.few
