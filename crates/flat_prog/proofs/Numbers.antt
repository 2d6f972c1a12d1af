-- Numbers in lists: how many of those below a bound stand behind the last place of one.
use Rattle.std.proofs.Common.{◌≡◌, ℕ, zero, suc, ◌<◌, ◌≤◌, Bool, true, false, ◌||◌, nat_eq, cond, List, [], ◌∷◌, ◌++◌, slice_get, Some, Contains, refl, sym, ◌∙◌, ap, subst, inl, inr, ◌⊎◌, ⊎_elim, arith, true≢false, not-suc-le-zero}
use Rattle.std.proofs.lemmas.Bool.{or_cases, or_left, or_right, eq-eqb, eqb-true, cases_eq, cases_lt}
use Rattle.flat_prog.specs.Once.{has_number}
use Rattle.flat_prog.specs.Ordering.{is_in}
use Rattle.flat_prog.proofs.Lists.{has_cases, has_none}

pub number_here : (n : ℕ) (ns : List ℕ) → has_number (n ∷ ns) n ≡ true
number_here n ns = or_left (nat_eq n n) (has_number ns n) (eq-eqb n n refl)

pub from_contains : (ns : List ℕ) (n : ℕ) → Contains ns n → has_number ns n ≡ true
from_contains [] n h = absurd (has_none n h)
from_contains (m ∷ ms) n h = ⊎_elim (λ e. or_left (nat_eq m n) (has_number ms n) (eq-eqb m n e)) (λ more. or_right (nat_eq m n) (has_number ms n) (from_contains ms n more)) (has_cases n m ms h)

pub number_at : (ns : List ℕ) (k n : ℕ) → slice_get ns k ≡ Some n → has_number ns n ≡ true
number_at [] k n h = cc
number_at (m ∷ ms) zero n h = let e : m ≡ n = cc in or_left (nat_eq m n) (has_number ms n) (eq-eqb m n e)
number_at (m ∷ ms) (suc k) n h = or_right (nat_eq m n) (has_number ms n) (number_at ms k n h)

pub number_cases : (ms ns : List ℕ) (n : ℕ) → has_number (ms ++ ns) n ≡ true → (has_number ms n ≡ true) ⊎ (has_number ns n ≡ true)
number_cases [] ns n h = inr h
number_cases (m ∷ ms) ns n h =
    ⊎_elim (λ e. inl (or_left (nat_eq m n) (has_number ms n) e))
    (λ e. ⊎_elim (λ x. inl (or_right (nat_eq m n) (has_number ms n) x)) (λ y. inr y) (number_cases ms ns n e)) (or_cases (nat_eq m n) (has_number (ms ++ ns) n) h)

-- how many numbers below a bound are in the list
abbrev pub counted : ℕ → List ℕ → ℕ
counted zero ns = 0
counted (suc m) ns = cond (has_number ns m) (suc (counted m ns)) (counted m ns)

pub counted_most : (m : ℕ) (ns : List ℕ) → counted m ns ≤ m
counted_most zero ns = omega arith
counted_most (suc m) ns = by_test (has_number ns m) (counted_most m ns)
  where
    by_test : (b : Bool) → counted m ns ≤ m → cond b (suc (counted m ns)) (counted m ns) ≤ suc m
    by_test true h = omega arith
    by_test false h = omega arith

counted_le : (m : ℕ) (ms ns : List ℕ) → ((n : ℕ) → has_number ms n ≡ true → has_number ns n ≡ true) → counted m ms ≤ counted m ns
counted_le zero ms ns h = omega arith
counted_le (suc m) ms ns h = by_tests (has_number ms m) (has_number ns m) (h m) (counted_le m ms ns h)
  where
    by_tests : (a b : Bool) → (a ≡ true → b ≡ true) → counted m ms ≤ counted m ns → cond a (suc (counted m ms)) (counted m ms) ≤ cond b (suc (counted m ns)) (counted m ns)
    by_tests true true up h = omega arith
    by_tests true false up h = absurd (true≢false (sym (up refl)))
    by_tests false true up h = omega arith
    by_tests false false up h = h

pub counted_less : (m : ℕ) (ms ns : List ℕ) (k : ℕ) → ((n : ℕ) → has_number ms n ≡ true → has_number ns n ≡ true) → k < m → has_number ms k ≡ false → has_number ns k ≡ true → counted m ms < counted m ns
counted_less zero ms ns k h l out at = absurd (not-suc-le-zero l)
counted_less (suc m) ms ns k h l out at = by_place (cases_eq k m) (counted_le m ms ns h) (λ lower. counted_less m ms ns k h lower out at)
  where
    by_tests : (a b : Bool) → (a ≡ true → b ≡ true) → counted m ms < counted m ns → cond a (suc (counted m ms)) (counted m ms) < cond b (suc (counted m ns)) (counted m ns)
    by_tests true true up h = omega arith
    by_tests true false up h = absurd (true≢false (sym (up refl)))
    by_tests false true up h = omega arith
    by_tests false false up h = h

    at_last : (a b : Bool) → a ≡ false → b ≡ true → counted m ms ≤ counted m ns → cond a (suc (counted m ms)) (counted m ms) < cond b (suc (counted m ns)) (counted m ns)
    at_last true b e f h = absurd (true≢false e)
    at_last false true e f h = omega arith
    at_last false false e f h = absurd (true≢false (sym f))

    below : k < suc m → (k ≡ m → ⊥) → k < m
    below l e = ⊎_elim (λ h. h) (λ h. absurd (e (omega arith))) (cases_lt k m)

    by_place : ((k ≡ m) ⊎ (k ≡ m → ⊥)) → counted m ms ≤ counted m ns → (k < m → counted m ms < counted m ns) → cond (has_number ms m) (suc (counted m ms)) (counted m ms) < cond (has_number ns m) (suc (counted m ns)) (counted m ns)
    by_place (inl e) le less = at_last (has_number ms m) (has_number ns m) (subst (λ (n : ℕ). has_number ms n ≡ false) e out) (subst (λ (n : ℕ). has_number ns n ≡ true) e at) le
    by_place (inr e) le less = by_tests (has_number ms m) (has_number ns m) (h m) (less (below l e))

-- what stands behind the last place of a number
abbrev pub behind : List ℕ → ℕ → List ℕ
behind [] p = []
behind (q ∷ qs) p = cond (has_number qs p) (behind qs p) qs

pub behind_without : (ns : List ℕ) (p : ℕ) → has_number (behind ns p) p ≡ false
behind_without [] p = refl
behind_without (q ∷ qs) p = by_test (has_number qs p) refl (behind_without qs p)
  where
    by_test : (b : Bool) → has_number qs p ≡ b → has_number (behind qs p) p ≡ false → has_number (cond b (behind qs p) qs) p ≡ false
    by_test true is h = h
    by_test false is h = is

behind_among : (ns : List ℕ) (p n : ℕ) → has_number (behind ns p) n ≡ true → has_number ns n ≡ true
behind_among [] p n h = h
behind_among (q ∷ qs) p n h = or_right (nat_eq q n) (has_number qs n) (by_test (has_number qs p) (λ k. behind_among qs p n k) h)
  where
    by_test : (b : Bool) → (has_number (behind qs p) n ≡ true → has_number qs n ≡ true) → has_number (cond b (behind qs p) qs) n ≡ true → has_number qs n ≡ true
    by_test true go h = go h
    by_test false go h = h

pub behind_fewer : (ns : List ℕ) (p to : ℕ) → has_number (behind ns p) to ≡ true → (n : ℕ) → has_number (behind ns to) n ≡ true → has_number (behind ns p) n ≡ true
behind_fewer [] p to h n k = k
behind_fewer (q ∷ qs) p to h n k = by_test (has_number qs p) (λ g m. behind_fewer qs p to g n m) h
  where
    inner : has_number qs to ≡ true → has_number (behind qs to) n ≡ true
    inner e = subst (λ (b : Bool). has_number (cond b (behind qs to) qs) n ≡ true) e k

    by_test : (b : Bool) → (has_number (behind qs p) to ≡ true → has_number (behind qs to) n ≡ true → has_number (behind qs p) n ≡ true) → has_number (cond b (behind qs p) qs) to ≡ true → has_number (cond b (behind qs p) qs) n ≡ true
    by_test true go h = go h (inner (behind_among qs p to h))
    by_test false go h = behind_among qs to n (inner h)

-- the same test, the other way round
eqb_turns : (m n : ℕ) → nat_eq m n ≡ nat_eq n m
eqb_turns m n = by (nat_eq m n) (nat_eq n m) (λ e. eq-eqb n m (sym (eqb-true m n e))) (λ e. eq-eqb m n (sym (eqb-true n m e)))
  where
    by : (a b : Bool) → (a ≡ true → b ≡ true) → (b ≡ true → a ≡ true) → a ≡ b
    by true b to from = sym (to refl)
    by false true to from = from refl
    by false false to from = refl

-- the two words for being among numbers are one
pub has_number_is : (ns : List ℕ) (n : ℕ) → has_number ns n ≡ is_in n ns
has_number_is [] n = refl
has_number_is (m ∷ ms) n = ap (λ b. b || has_number ms n) (eqb_turns m n) ∙ ap (λ b. nat_eq n m || b) (has_number_is ms n)
