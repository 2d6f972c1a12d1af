-- The numbers of the marks that are true, mark by mark, and row by row.
use Rattle.std.proofs.Common.{◌≡◌, ℕ, zero, suc, ◌+◌, ◌<◌, Bool, true, false, List, [], ◌∷◌, ◌++◌, length, map, take, refl, sym, ap, ◌∙◌, subst, arith}
use Rattle.std.specs.Prelude.{slice_index_or}
use Rattle.flat_prog.specs.Changes.{AreChanged}
use Rattle.flat_prog.specs.Limits.{AreLimits, LimitsNameChanges, marked_from, numbers_of}
use Rattle.flat_prog.specs.Program.{FlatProgram}
use Rattle.template_law.specs.Formulas.{AreChanges}
use Rattle.tree_terms.specs.Tables.{row}

-- one mark more
on_next : (first : ℕ) (marks : List Bool) (k : ℕ) → k < length marks → slice_index_or marks k false ≡ true → marked_from first (take (suc k) marks) ≡ marked_from first (take k marks) ++ (first + k) ∷ []
on_next first [] k low h = absurd (omega (arith, low))
on_next first (true ∷ marks) zero low h = let e : first ≡ first + 0 = omega arith in ap (λ (n : ℕ). n ∷ []) e
on_next first (false ∷ marks) zero low h = cc
on_next first (true ∷ marks) (suc k) low h =
    let e : (first + 1) + k ≡ first + suc k = omega arith in
    ap (λ (ns : List ℕ). first ∷ ns) (on_next (first + 1) marks k (omega (arith, low)) h ∙ ap (λ (n : ℕ). marked_from (first + 1) (take k marks) ++ n ∷ []) e)
on_next first (false ∷ marks) (suc k) low h =
    let e : (first + 1) + k ≡ first + suc k = omega arith in
    on_next (first + 1) marks k (omega (arith, low)) h ∙ ap (λ (n : ℕ). marked_from (first + 1) (take k marks) ++ n ∷ []) e

off_next : (first : ℕ) (marks : List Bool) (k : ℕ) → k < length marks → slice_index_or marks k false ≡ false → marked_from first (take (suc k) marks) ≡ marked_from first (take k marks)
off_next first [] k low h = absurd (omega (arith, low))
off_next first (true ∷ marks) zero low h = cc
off_next first (false ∷ marks) zero low h = refl
off_next first (true ∷ marks) (suc k) low h = ap (λ (ns : List ℕ). first ∷ ns) (off_next (first + 1) marks k (omega (arith, low)) h)
off_next first (false ∷ marks) (suc k) low h = off_next (first + 1) marks k (omega (arith, low)) h

pub mark_next : (marks : List Bool) (k : ℕ) (old new : List ℕ) (b : Bool) → k < length marks → b ≡ slice_index_or marks k false → old ≡ numbers_of (take k marks) → (b ≡ true → new ≡ old ++ k ∷ []) → (b ≡ false → new ≡ old)
    → new ≡ numbers_of (take (k + 1) marks)
mark_next marks k old new true low is before on off =
    let more : k + 1 ≡ suc k = omega arith in
    let e : 0 + k ≡ k = omega arith in
    on refl ∙ ap (λ (ns : List ℕ). ns ++ k ∷ []) before ∙ sym (ap (λ (n : ℕ). marked_from 0 (take n marks)) more ∙ on_next 0 marks k low (sym is) ∙ ap (λ (n : ℕ). marked_from 0 (take k marks) ++ n ∷ []) e)
mark_next marks k old new false low is before on off =
    let more : k + 1 ≡ suc k = omega arith in
    off refl ∙ before ∙ sym (ap (λ (n : ℕ). marked_from 0 (take n marks)) more ∙ off_next 0 marks k low (sym is))

-- the rows of numbers are those of the rows of marks
rows_same : (limits : List (List Bool)) (p : ℕ) → row (map numbers_of limits) p ≡ numbers_of (slice_index_or limits p [])
rows_same [] zero = refl
rows_same [] (suc p) = refl
rows_same (r ∷ limits) zero = refl
rows_same (r ∷ limits) (suc p) = rows_same limits p

pub changes_are : LimitsNameChanges → (flat : FlatProgram) (limits : List (List Bool)) (changes : List (List ℕ)) → AreLimits flat limits → changes ≡ map numbers_of limits → AreChanges flat changes
changes_are law flat limits changes h is =
    subst (λ (cs : List (List ℕ)). AreChanges flat cs) (sym is) (λ p. subst (λ (ns : List ℕ). AreChanged flat p ns) (sym (rows_same limits p)) (law flat limits p h))
