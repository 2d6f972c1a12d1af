-- Texts that are cut at a byte.
use Rattle.std.proofs.Common.{◌≡◌, ◌≢◌, ℕ, ◌+◌, ◌<◌, Bool, false, eqb, List, [], ◌∷◌, ◌++◌, length, get_or, take, drop, All, arith, take-append-drop, sym, ◌∙◌, ap, subst, refl}
use Rattle.std.specs.Prelude.{None}
use Rattle.std.specs.List.{slice_split}
use Rattle.std.proofs.lemmas.Bool.{eq-eqb, ne_eqb}
use Rattle.std.proofs.lemmas.List.{drop_more, get_or-take, length-take-le}
use Rattle.std.proofs.lemmas.List.Elements.{All-from_get_or}
use Rattle.std.proofs.lemmas.List.Splits.{length-slice_split, slice_split_at, slice_split_none}
use Rattle.trace_text.specs.Words.{halves, only_two, parts}

-- there is a part
pub some_part : (p : ℕ → Bool) (xs : List ℕ) → slice_split p xs ≢ []
some_part p xs e = let n : length (slice_split p xs) ≡ 0 = ap length e in omega (arith, length-slice_split p xs)

none_of_three : (a b : List ℕ) (more : List (List ℕ)) → more ≢ [] → only_two (a ∷ b ∷ more) ≡ None
none_of_three a b [] h = absurd (h refl)
none_of_three a b (c ∷ more) h = refl

-- three parts or more are not two
pub not_two : (p : ℕ → Bool) (a b xs : List ℕ) → only_two (a ∷ b ∷ slice_split p xs) ≡ None
not_two p a b xs = none_of_three a b (slice_split p xs) (some_part p xs)

-- the list is its front, the byte at i and the rest
around : (xs : List ℕ) (i s : ℕ) → i < length xs → get_or xs i 0 ≡ s → xs ≡ take i xs ++ s ∷ drop (i + 1) xs
around xs i s inside here = sym (take-append-drop i xs) ∙ ap (λ l. take i xs ++ l) (drop_more xs i 0 inside ∙ ap (λ b. b ∷ drop (i + 1) xs) here)

-- the first part ends before the first such byte
pub cut_at : (s : ℕ) (xs : List ℕ) (i : ℕ) → i < length xs → get_or xs i 0 ≡ s → ((k : ℕ) → k < i → get_or xs k 0 ≢ s) → parts s xs ≡ take i xs ∷ parts s (drop (i + 1) xs)
cut_at s xs i inside here before =
    let front : All (λ b. eqb b s ≡ false) (take i xs) =
    All-from_get_or (λ b. eqb b s ≡ false) (take i xs) 0 (λ k below. let low : k < i = omega (arith, length-take-le i xs) in subst (λ b. eqb b s ≡ false) (sym (get_or-take i xs k 0 low)) (ne_eqb (get_or xs k 0) s (before k low)))
    in ap (parts s) (around xs i s inside here) ∙ slice_split_at (λ b. eqb b s) (take i xs) s (drop (i + 1) xs) front (eq-eqb s s refl)

pub cut_none : (s : ℕ) (xs : List ℕ) → All (λ b. b ≢ s) xs → parts s xs ≡ xs ∷ []
cut_none s xs none = slice_split_none (λ b. eqb b s) xs (λ k d below. ne_eqb (get_or xs k d) s (none k d below))

-- a text that is cut twice has no two halves
pub not_halves : (byte : ℕ) (text front back middle rest : List ℕ) → parts byte text ≡ front ∷ parts byte back → parts byte back ≡ middle ∷ parts byte rest → None ≡ halves byte text
not_halves byte text front back middle rest once twice =
    sym (ap only_two (once ∙ ap (λ ps. front ∷ ps) twice) ∙ not_two (λ b. eqb b byte) front middle rest)
