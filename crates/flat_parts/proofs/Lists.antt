-- Tests that all elements of a list pass, and numbers that stand in a row.
use Rattle.std.proofs.Common.{◌≡◌, ℕ, zero, suc, ◌≤◌, ◌<◌, ◌+◌, Bool, true, false, List, [], ◌∷◌, length, arith, subst, refl}
use Rattle.std.specs.Prelude.{Some, slice_get, slice_index_or, nat_eq, Contains, Any}
use Rattle.std.specs.List.{list_all}
use Rattle.std.proofs.lemmas.Bool.{and_parts, eqb-true}
use Rattle.std.proofs.lemmas.Bool.Decides.{nat_tests}
use Rattle.flat_prog.specs.Sites.{numbers_from}

pub passes_at : {X : Type 0} (test : X → Bool) (xs : List X) (k : ℕ) (d : X) → k < length xs → list_all test xs ≡ true → test (slice_index_or xs k d) ≡ true
passes_at test [] k d l h = absurd (omega (arith, l))
passes_at test (x ∷ xs) zero d l h = (and_parts (test x) (list_all test xs) h).0
passes_at test (x ∷ xs) (suc k) d l h = passes_at test xs k d (omega (arith, l)) (and_parts (test x) (list_all test xs) h).1

pub passes : {X : Type 0} (test : X → Bool) (xs : List X) (k : ℕ) (x : X) → list_all test xs ≡ true → slice_get xs k ≡ Some x → test x ≡ true
passes test [] k x h e = absurd cc
passes test (y ∷ ys) zero x h e = let same : y ≡ x = cc in subst (λ z. test z ≡ true) same (and_parts (test y) (list_all test ys) h).0
passes test (y ∷ ys) (suc k) x h e = passes test ys k x (and_parts (test y) (list_all test ys) h).1 e

-- what follows from some element, where all pass a test
pub any_of : {X : Type 0} (P : X → Type 0) (R : Type 0) (test : X → Bool) (xs : List X) → ((x : X) → test x ≡ true → P x → R) → list_all test xs ≡ true → Any P xs → R
any_of P R test xs f h (k, x, l, e, p) = f x (subst (λ y. test y ≡ true) e (passes_at test xs k x l h)) p

pub among : (first count n : ℕ) → first ≤ n → n < first + count → Contains (numbers_from first count) n
among first zero n le lt = absurd (omega (arith, le, lt))
among first (suc count) n le lt = at (nat_eq first n) refl (λ le' lt'. among (first + 1) count n le' lt')
  where
    at : (b : Bool) → nat_eq first n ≡ b → (first + 1 ≤ n → n < first + 1 + count → Contains (numbers_from (first + 1) count) n) → Contains (first ∷ numbers_from (first + 1) count) n
    at true e rest = (0, omega arith, eqb-true first n e)
    at false e rest = let more : first + 1 ≤ n = grind (arith, nat_tests) in let i = rest more (omega (arith, lt)) in let l = i.1 in (suc i.0, omega (arith, l), i.2)
