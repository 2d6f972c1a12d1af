-- Lists of literals, none twice.
use Rattle.std.proofs.Common.{◌≡◌, ℕ, ◌==◌, ◌<◌, ◌≤◌, Bool, true, false, ◌||◌, List, [], ◌∷◌, ◌++◌, map, refl, ap, ◌∙◌, arith, get_or, set, length}
use Rattle.std.proofs.lemmas.Grind.{common_steps}
use Rattle.std.proofs.lemmas.Bool.{and_parts, or_parts, eqb-true}
use Rattle.std.proofs.lemmas.List.Folds.{list_any-append}
use Rattle.cnf_form.specs.Literal.{negation, is_among, is_distinct}

or-false : (b : Bool) → (b || false) ≡ b
or-false true = refl
or-false false = refl

pub negation-negation : (l : ℕ) → negation (negation l) ≡ l
negation-negation l = grind arith

negation-eqb : (q l : ℕ) → (negation q == l) ≡ (q == negation l)
negation-eqb q l = grind (arith, eqb-true)

pub is_among-map : (xs : List ℕ) (l : ℕ) → is_among (map negation xs) l ≡ is_among xs (negation l)
is_among-map [] l = refl
is_among-map (x ∷ xs) l = rw (negation-eqb x l, is_among-map xs l) refl

pub is_among-push : (xs : List ℕ) (x l : ℕ) → is_among (xs ++ x ∷ []) l ≡ (is_among xs l || (x == l))
is_among-push xs x l = list_any-append _ xs (x ∷ []) ∙ ap (λ b. is_among xs l || b) (or-false (x == l))

pub is_distinct-push : (xs : List ℕ) (x : ℕ) → is_among xs x ≡ false → is_distinct xs ≡ true → is_distinct (xs ++ x ∷ []) ≡ true
is_distinct-push [] x a d = refl
is_distinct-push (y ∷ xs) x a d = grind (arith, is_distinct-push xs x, is_among-push xs x y, and_parts, or_parts)

pub is_distinct-pop : (xs : List ℕ) (x : ℕ) → is_distinct (xs ++ x ∷ []) ≡ true → (is_among xs x ≡ false) × (is_distinct xs ≡ true)
is_distinct-pop [] x d = (refl, refl)
is_distinct-pop (y ∷ xs) x d = grind (arith, is_distinct-pop xs x, is_among-push xs x y, and_parts, or_parts)

pub flags_push : (fs : List Bool) (xs : List ℕ) (x : ℕ) → ((k : ℕ) → get_or fs k false ≡ is_among xs k) → x < length fs → (k : ℕ) → get_or (set fs x true) k false ≡ is_among (xs ++ x ∷ []) k
flags_push fs xs x h within k = rw is_among-push (grind (arith, common_steps, h k, eqb-true))

pub flags_pop : (fs : List Bool) (xs : List ℕ) (x : ℕ) → ((k : ℕ) → get_or fs k false ≡ is_among (xs ++ x ∷ []) k) → is_among xs x ≡ false → x < length fs → (k : ℕ) → get_or (set fs x false) k false ≡ is_among xs k
flags_pop fs xs x h a within k = let e = h k ∙ is_among-push xs x k in grind (arith, common_steps, e, eqb-true)

-- the last literal has a flag
pub flags_last : (fs : List Bool) (xs : List ℕ) (x : ℕ) → ((k : ℕ) → get_or fs k false ≡ is_among (xs ++ x ∷ []) k) → length fs ≤ x → ⊥
flags_last fs xs x h past = let e = h x ∙ is_among-push xs x x in grind (arith, common_steps, e, or-true, eqb-refl x)
  where
    or-true : (b : Bool) → (b || true) ≡ true
    or-true true = refl
    or-true false = refl

    eqb-refl : (n : ℕ) → (n == n) ≡ true
    eqb-refl n = grind arith
