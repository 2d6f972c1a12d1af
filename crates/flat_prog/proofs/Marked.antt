-- The numbers of the marks that are true: exactly these, in order.
use Rattle.std.proofs.Common.{◌≡◌, ℕ, zero, suc, ◌+◌, ◌<◌, ◌≤◌, Bool, true, false, List, [], ◌∷◌, length, get_or, slice_index_or, Contains, refl, sym, ◌∙◌, ap, subst, arith, inl, inr, ◌⊎◌, ⊎_elim, true≢false}
use Rattle.std.specs.Prelude.{◌↔◌}
use Rattle.std.specs.List.Sorted.{IsStrictlyIncreasing}
use Rattle.flat_prog.specs.Changes.{MayChange, AreChanged}
use Rattle.flat_prog.specs.Limits.{AreLimits, row, marked_from, numbers_of}
use Rattle.flat_prog.specs.Program.{FlatProgram}
use Rattle.flat_prog.proofs.Lists.{has_here, has_there, has_cases, has_none}

in_marked : (first : ℕ) (marks : List Bool) (k : ℕ) → slice_index_or marks k false ≡ true → Contains (marked_from first marks) (first + k)
in_marked first [] k h = absurd (true≢false (sym h))
in_marked first (true ∷ marks) zero h = let e : first ≡ first + 0 = omega arith in subst (Contains (first ∷ marked_from (first + 1) marks)) e (has_here first (marked_from (first + 1) marks))
in_marked first (false ∷ marks) zero h = absurd (true≢false (sym h))
in_marked first (true ∷ marks) (suc k) h = let e : first + 1 + k ≡ first + suc k = omega arith in subst (Contains (first ∷ marked_from (first + 1) marks)) e (has_there (first + 1 + k) first (marked_from (first + 1) marks) (in_marked (first + 1) marks k h))
in_marked first (false ∷ marks) (suc k) h = let e : first + 1 + k ≡ first + suc k = omega arith in subst (Contains (marked_from (first + 1) marks)) e (in_marked (first + 1) marks k h)

-- a number of the list is that of a mark
abbrev HasMark : ℕ → List Bool → ℕ → Type 0
HasMark first marks n = (k : ℕ) × (n ≡ first + k) × (slice_index_or marks k false ≡ true)

later : (first : ℕ) (mark : Bool) (marks : List Bool) (n : ℕ) → HasMark (first + 1) marks n → HasMark first (mark ∷ marks) n
later first mark marks n (k, is, set) = (suc k, omega (arith, is), set)

marked_in : (first : ℕ) (marks : List Bool) (n : ℕ) → Contains (marked_from first marks) n → HasMark first marks n
marked_in first [] n h = absurd (has_none n h)
marked_in first (true ∷ marks) n h = by (has_cases n first (marked_from (first + 1) marks) h) (marked_in (first + 1) marks n)
  where
    by : (first ≡ n) ⊎ Contains (marked_from (first + 1) marks) n → (Contains (marked_from (first + 1) marks) n → HasMark (first + 1) marks n) → HasMark first (true ∷ marks) n
    by (inl e) rec = (0, omega (arith, e), refl)
    by (inr more) rec = later first true marks n (rec more)
marked_in first (false ∷ marks) n h = later first false marks n (marked_in (first + 1) marks n h)

increasing_more : (n : ℕ) (ns : List ℕ) → (0 < length ns → n < get_or ns 0 0) → IsStrictlyIncreasing ns → IsStrictlyIncreasing (n ∷ ns)
increasing_more n ns below h zero less = below (omega arith)
increasing_more n ns below h (suc k) less =
    let e : suc k + 1 ≡ suc (k + 1) = omega arith in
    let within : k + 1 < length ns = omega arith in
    subst (λ (j : ℕ). get_or ns k 0 < get_or (n ∷ ns) j 0) (sym e) (h k within)

first_has : (ns : List ℕ) → 0 < length ns → Contains ns (get_or ns 0 0)
first_has [] some = absurd (omega arith)
first_has (n ∷ ns) some = has_here n ns

marked_ascend : (first : ℕ) (marks : List Bool) → IsStrictlyIncreasing (marked_from first marks)
marked_ascend first [] = λ k less. absurd (omega arith)
marked_ascend first (true ∷ marks) = increasing_more first (marked_from (first + 1) marks) below (marked_ascend (first + 1) marks)
  where
    below : 0 < length (marked_from (first + 1) marks) → first < get_or (marked_from (first + 1) marks) 0 0
    below some =
        let found = marked_in (first + 1) marks (get_or (marked_from (first + 1) marks) 0 0) (first_has (marked_from (first + 1) marks) some) in
        let is : get_or (marked_from (first + 1) marks) 0 0 ≡ first + 1 + found.0 = found.1 in
        omega (arith, is)
marked_ascend first (false ∷ marks) = marked_ascend (first + 1) marks

pub limits_name : (flat : FlatProgram) (limits : List (List Bool)) (p : ℕ) → AreLimits flat limits → AreChanged flat p (numbers_of (row limits p))
limits_name flat limits p are = record { exact = λ g. (to g, from g); ascend = marked_ascend 0 (row limits p) }
  where
    to : (g : ℕ) → Contains (numbers_of (row limits p)) g → MayChange flat g p
    to g h =
        let found = marked_in 0 (row limits p) g h in
        let is : found.0 ≡ g = let e : g ≡ 0 + found.0 = found.1 in omega (arith, e) in
        (are.exact p g).0 (subst (λ (k : ℕ). slice_index_or (row limits p) k false ≡ true) is found.2)

    from : (g : ℕ) → MayChange flat g p → Contains (numbers_of (row limits p)) g
    from g h = let e : 0 + g ≡ g = omega arith in subst (Contains (numbers_of (row limits p))) e (in_marked 0 (row limits p) g ((are.exact p g).1 h))
