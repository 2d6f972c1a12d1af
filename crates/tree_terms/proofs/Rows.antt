-- Lists of numbers, one for each node.
use Rattle.std.proofs.Common.{◌≡◌, ℕ, zero, suc, ◌<◌, Bool, true, false, List, [], ◌∷◌, ◌++◌, length, refl, sym, ap, ◌∙◌, arith, length-append, get_or, slice_set}
use Rattle.std.specs.Prelude.{slice_index, nat_eq}
use Rattle.hy_term.proofs.Numbering.{number_is, same_number}
use Rattle.tree_terms.proofs.Parts.{index_left}
use Rattle.tree_terms.specs.Tables.{row, IsPushed}

pub row_got : (t : List (List ℕ)) (m : ℕ) (r : List ℕ) → m < length t → r ≡ get_or t m r → r ≡ row t m
row_got [] m r l is = absurd (omega (arith, l))
row_got (x ∷ t) zero r l is = is
row_got (x ∷ t) (suc m) r l is = row_got t m r (omega (arith, l)) is

count_set : (t : List (List ℕ)) (m : ℕ) (r : List ℕ) → length (slice_set t m r) ≡ length t
count_set [] m r = refl
count_set (x ∷ t) zero r = refl
count_set (x ∷ t) (suc m) r = ap suc (count_set t m r)

row_set : (t : List (List ℕ)) (m : ℕ) (r : List ℕ) → m < length t → row (slice_set t m r) m ≡ r
row_set [] m r l = absurd (omega (arith, l))
row_set (x ∷ t) zero r l = refl
row_set (x ∷ t) (suc m) r l = row_set t m r (omega (arith, l))

row_other : (t : List (List ℕ)) (m : ℕ) (r : List ℕ) (k : ℕ) → (k ≡ m → ⊥) → row (slice_set t m r) k ≡ row t k
row_other [] m r k off = refl
row_other (x ∷ t) zero r zero off = absurd (off refl)
row_other (x ∷ t) zero r (suc k) off = refl
row_other (x ∷ t) (suc m) r zero off = refl
row_other (x ∷ t) (suc m) r (suc k) off = row_other t m r k (λ e. off (ap suc e))

pub pushed_row : (t : List (List ℕ)) (m n : ℕ) (r longer : List ℕ) → m < length t → r ≡ get_or t m r → longer ≡ r ++ n ∷ [] → IsPushed t (slice_set t m longer) m n
pushed_row t m n r longer l is more = record {
  count = count_set t m longer;
  here = row_set t m longer l ∙ (more ∙ ap (λ (xs : List ℕ). xs ++ n ∷ []) (row_got t m r l is));
  others = λ k off. row_other t m longer k off;
}

pub row_more : (t : List (List ℕ)) (m : ℕ) → ((k : ℕ) → row t k ≡ []) → row (t ++ [] ∷ []) m ≡ []
row_more [] zero all = refl
row_more [] (suc m) all = refl
row_more (x ∷ t) zero all = all 0
row_more (x ∷ t) (suc m) all = row_more t m (λ k. all (suc k))

-- nothing is there beyond the lists
pub row_within : (t : List (List ℕ)) (m i : ℕ) → i < length (row t m) → m < length t
row_within [] m i l = absurd (omega (arith, l))
row_within (x ∷ t) zero i l = omega arith
row_within (x ∷ t) (suc m) i l = omega (arith, row_within t m i l)

-- what was there stays
pub row_longer : (old new : List (List ℕ)) (m n : ℕ) → IsPushed old new m n → (x i : ℕ) → i < length (row old x) → (i < length (row new x)) × (slice_index (row new x) i ≡ slice_index (row old x) i)
row_longer old new m n p x i l = by_test (nat_eq x m) refl
  where
    by_test : (b : Bool) → nat_eq x m ≡ b → (i < length (row new x)) × (slice_index (row new x) i ≡ slice_index (row old x) i)
    by_test true is =
        let e : row new x ≡ row old x ++ n ∷ [] = ap (row new) (number_is x m is) ∙ (p.here ∙ ap (λ (k : ℕ). row old k ++ n ∷ []) (sym (number_is x m is))) in
        (omega (arith, l, ap length e, length-append (row old x) (n ∷ [])), ap (λ (r : List ℕ). slice_index r i) e ∙ index_left (row old x) (n ∷ []) i l)
    by_test false is =
        let e : row new x ≡ row old x = p.others x (λ h. let y : true ≡ false = sym (same_number x) ∙ (ap (nat_eq x) h ∙ is) in cc) in
        (omega (arith, l, ap length e), ap (λ (r : List ℕ). slice_index r i) e)
