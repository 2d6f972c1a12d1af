-- The longest run of bytes of a class, and texts that begin with a text.
use Rattle.std.proofs.Common.{◌≡◌, ℕ, suc, ◌+◌, ◌<◌, ◌≤◌, Bool, true, false, List, [], ◌∷◌, ◌++◌, length, get_or, take, drop, nat_eq, refl, sym, ap, arith, inl, inr}
use Rattle.std.specs.Prelude.{Option, Some, None, option_map}
use Rattle.std.specs.List.{list_all, prefix_len, starts_with}
use Rattle.std.proofs.lemmas.Bool.{cases_Bool}
use Rattle.std.proofs.lemmas.Bool.Decides.{Decides-eqb}
use Rattle.std.proofs.lemmas.List.{length-append}
use Rattle.std.proofs.lemmas.Slice.Eq.{starts_is}

pub prefix_yes : (p : ℕ → Bool) (b : ℕ) (bs : List ℕ) → p b ≡ true → prefix_len p (b ∷ bs) ≡ suc (prefix_len p bs)
prefix_yes p b bs h = rw h (omega arith)

pub prefix_no : (p : ℕ → Bool) (b : ℕ) (bs : List ℕ) → p b ≡ false → prefix_len p (b ∷ bs) ≡ 0
prefix_no p b bs h = rw h refl

-- each byte of a run passes
pub run_passes : (p : ℕ → Bool) (bs : List ℕ) → list_all p (take (prefix_len p bs) bs) ≡ true
run_passes p [] = refl
run_passes p (b ∷ bs) = elim (cases_Bool (p b)) [ inl h ↦ rw (prefix_yes p b bs h) (rw h (run_passes p bs)) | inr h ↦ rw (prefix_no p b bs h) refl ]

-- a run whose first byte passes has a byte
pub run_some : (p : ℕ → Bool) (bs : List ℕ) → 0 < length bs → p (get_or bs 0 0) ≡ true → 0 < prefix_len p bs
run_some p [] some h = absurd (omega arith)
run_some p (b ∷ bs) some h = rw (prefix_yes p b bs h) (omega arith)

-- a text that begins with another
pub begins : (bs text : List ℕ) → starts_with nat_eq bs text ≡ true → bs ≡ text ++ drop (length text) bs
begins bs text h = (starts_is Decides-eqb bs text true (sym h)).0 refl

pub begins_len : (bs text : List ℕ) → starts_with nat_eq bs text ≡ true → length text ≤ length bs
begins_len bs text h = let e = ap length (begins bs text h) in omega (arith, e, length-append text (drop (length text) bs))

pub option_map_some : (o : Option ℕ) (k n : ℕ) → option_map (λ m. m + k) o ≡ Some n → (m : ℕ) × (o ≡ Some m) × (n ≡ m + k)
option_map_some None k n h = absurd cc
option_map_some (Some m) k n h = (m, refl, cc)
