-- The value of digits, as it grows from digit to digit.
use Rattle.std.proofs.Common.{◌≡◌, ℕ, suc, ◌+◌, ◌-◌, ◌*◌, ◌/◌, ◌^◌, ◌<◌, ◌≤◌, Bool, true, false, cond, List, [], ◌∷◌, length, get_or, drop, nat_lt, refl, sym, ◌∙◌, inl, inr, arith, drop-cons}
use Rattle.std.specs.Prelude.{Some, None}
use Rattle.std.specs.Char.{digit_value, is_ascii_digit}
use Rattle.std.specs.List.{list_all}
use Rattle.std.specs.Str.Parse.{digits_value, digits_value_after}
use Rattle.std.proofs.lemmas.Bool.{cases_Bool, ltb-true}
use Rattle.std.proofs.lemmas.Bool.Decides.{nat_tests}
use Rattle.std.proofs.lemmas.List.{drop_all}
use Rattle.std.proofs.lemmas.List.Folds.{list_all_at}
use Rattle.bpl_tok.specs.Pieces.{in_128_bits}

-- a digit stands for its code less that of `0`
pub digit_value-digit : (c : ℕ) → is_ascii_digit c ≡ true → digit_value c ≡ c - 48
digit_value-digit c h = grind (arith, nat_tests)

true_or_false : (b : Bool) → (b ≡ false → true ≡ false) → b ≡ true
true_or_false true h = refl
true_or_false false h = sym (h refl)

-- each of them is a digit
pub digit_at : (ds : List ℕ) (i : ℕ) → list_all is_ascii_digit ds ≡ true → i < length ds → is_ascii_digit (get_or ds i 0) ≡ true
digit_at ds i all lt = true_or_false (is_ascii_digit (get_or ds i 0)) (λ no. sym all ∙ list_all_at is_ascii_digit ds i 0 lt no)

pub grows : (ds : List ℕ) (n : ℕ) → n ≤ digits_value_after 10 n ds
grows [] n = omega arith
grows (d ∷ ds) n = omega (arith, grows ds (n * 10 + digit_value d))

-- one digit more, which stands for d
pub more : (ds : List ℕ) (i n d total : ℕ) → list_all is_ascii_digit ds ≡ true → i < length ds → d ≡ get_or ds i 0 - 48 → digits_value_after 10 n (drop i ds) ≡ total → digits_value_after 10 (10 * n + d) (drop (i + 1) ds) ≡ total
more ds i n d total all lt is so_far =
    let up : i + 1 ≡ suc i = omega arith in
    let there : digits_value_after 10 (n * 10 + digit_value (get_or ds i 0)) (drop (suc i) ds) ≡ total = rw (drop-cons ds i 0 lt) at so_far in
    let e : n * 10 + digit_value (get_or ds i 0) ≡ 10 * n + d = omega (arith, is, digit_value-digit (get_or ds i 0) (digit_at ds i all lt)) in
    rw (up, ← e) there

too_large : (total : ℕ) → 2 ^ 128 ≤ total → None ≡ in_128_bits total
too_large total le = grind (arith, nat_tests)

-- a value that is too large on the way is too large
pub overflows : (ds : List ℕ) (i n d total : ℕ) → list_all is_ascii_digit ds ≡ true → i < length ds → d ≡ get_or ds i 0 - 48 → digits_value_after 10 n (drop i ds) ≡ total → (2 ^ 128 - 1 - d) / 10 < n → None ≡ in_128_bits total
overflows ds i n d total all lt is so_far far =
    too_large total (omega (arith, grows (drop (i + 1) ds) (10 * n + d), more ds i n d total all lt is so_far))

pub fits : (total n : ℕ) → n < 2 ^ 128 → n ≡ total → Some n ≡ in_128_bits total
fits total n lt e = grind (arith, nat_tests)

-- what fits is the value
pub in_128_bits-some : (total n : ℕ) → in_128_bits total ≡ Some n → total ≡ n
in_128_bits-some total n h = elim (nat_lt total (2 ^ 128)) as (λ t. cond t (Some total) None ≡ Some n → total ≡ n) [ true ↦ λ e. cc | false ↦ λ e. absurd cc ] h

pub in_128_bits-below : (total n : ℕ) → in_128_bits total ≡ Some n → n < 2 ^ 128
in_128_bits-below total n h = elim (cases_Bool (nat_lt total (2 ^ 128))) [
  | inl k ↦ (let e = rw k at h in let same : n ≡ total = cc in rw same (ltb-true total (2 ^ 128) k))
  | inr k ↦ (let e = rw k at h in absurd cc)
]

pub in_128_bits-none : (total : ℕ) → in_128_bits total ≡ None → 2 ^ 128 ≤ total
in_128_bits-none total h = grind (arith, nat_tests)

-- no digit is left
pub at_end : (ds : List ℕ) (i n : ℕ) → length ds ≤ i → digits_value_after 10 n (drop i ds) ≡ digits_value 10 ds → n ≡ digits_value 10 ds
at_end ds i n le so_far = let nothing = drop_all i ds le in let there = rw nothing at so_far in there
