-- Arithmetic on 64-bit words, cut to a width.
use Rattle.std.proofs.Common.{◌≡◌, ℕ, zero, suc, ◌+◌, ◌-◌, ◌*◌, ◌/◌, ◌%◌, ◌<◌, ◌≤◌, ◌^◌, Bool, true, false, arith, sym, ◌∙◌, ap, refl, subst}
use Rattle.std.specs.Prelude.{nat_lt, bit_and, if◌then◌else◌}
use Rattle.std.proofs.lemmas.Nat.{and_mask, pow_pos, pow-add, shl_whole, mul-add-lt}
use Rattle.std.proofs.lemmas.Nat.Bits.{ones_shr}
use Rattle.std.proofs.lemmas.Bool.Decides.{nat_tests}
use Rattle.std.proofs.Math.Nat.{add-mul-mod_self_right, mul_comm}
use Rattle.std.proofs.Math.Pow.{mod-mod-pow, pow_mono}

-- the ones of w bits are those of 64, shifted
pub shifted_ones : (w : ℕ) → w ≤ 64 → (2 ^ 64 - 1) / 2 ^ (64 - w) ≡ 2 ^ w - 1
shifted_ones w narrow =
    let within : 64 - w ≤ 64 = omega arith in
    let left : 64 - (64 - w) ≡ w = omega arith in
    ones_shr 64 (64 - w) within ∙ ap (λ k. 2 ^ k - 1) left

pub masked : (w n m : ℕ) → m ≡ 2 ^ w - 1 → bit_and n m ≡ n % 2 ^ w
masked w n m is = ap (bit_and n) is ∙ and_mask n w

-- what is left of a number in w bits is left of its lowest 64
pub cut_twice : (w n : ℕ) → w ≤ 64 → n % 2 ^ 64 % 2 ^ w ≡ n % 2 ^ w
cut_twice w n narrow =
    let whole : 64 ≡ (64 - w) + w = omega arith in
    ap (λ k. n % 2 ^ k % 2 ^ w) whole ∙ mod-mod-pow n (64 - w) w

-- 2^64 is a multiple of 2^w
whole_word : (w : ℕ) → w ≤ 64 → 2 ^ 64 ≡ 2 ^ (64 - w) * 2 ^ w
whole_word w narrow =
    let whole : 64 ≡ (64 - w) + w = omega arith in
    ap (λ k. 2 ^ k) whole ∙ pow-add 2 (64 - w) w

-- a subtraction that borrows from 2^64 does so from 2^w as well
borrow : (a b q p : ℕ) → 0 < q → b < p → a + (q * p - b) ≡ a + (p - b) + (q - 1) * p
borrow a b (suc q) p some less = grind arith
borrow a b zero p some less = absurd (omega (arith, some))

pub borrowed : (w a b : ℕ) → w ≤ 64 → b < 2 ^ w → (a + (2 ^ 64 - b)) % 2 ^ 64 % 2 ^ w ≡ (a + (2 ^ w - b)) % 2 ^ w
borrowed w a b narrow less =
    cut_twice w (a + (2 ^ 64 - b)) narrow
    ∙ ap (λ n. (a + (n - b)) % 2 ^ w) (whole_word w narrow)
    ∙ ap (λ n. n % 2 ^ w) (borrow a b (2 ^ (64 - w)) (2 ^ w) (pow_pos (64 - w)) less)
    ∙ add-mul-mod_self_right (a + (2 ^ w - b)) (2 ^ (64 - w) - 1) (2 ^ w)

if_less : (t : Bool) (x y : ℕ) → t ≡ true → (if t then x else y) ≡ x
if_less true x y h = refl
if_less false x y h = cc

-- h bits above l
pub placed : (h l k a b : ℕ) → k ≡ l → a < 2 ^ h → h + l ≤ 64 → a * 2 ^ k % 2 ^ 64 + b ≡ a * 2 ^ l + b
placed h l k a b same less fits =
    ap (λ j. a * 2 ^ j % 2 ^ 64 + b) same ∙ ap (λ n. n + b) (shl_whole a h l 64 less fits)

pub joined_below : (h l a b n : ℕ) → n ≡ a * 2 ^ l + b → a < 2 ^ h → b < 2 ^ l → n < 2 ^ (h + l)
joined_below h l a b n is above below =
    let whole : a * 2 ^ l + b < 2 ^ l * 2 ^ h = mul-add-lt a (2 ^ l) b (2 ^ h) above below in
    rw (is, pow-add 2 h l, mul_comm (2 ^ h) (2 ^ l)) whole

pub narrow_power : (n m : ℕ) → m ≤ 64 → n < 2 ^ m → n < 2 ^ 64
narrow_power n m within less =
    let most : 2 ^ m ≤ 2 ^ 64 = pow_mono within in
    omega arith

-- a longer power
pub longer : (w k : ℕ) → 2 ^ w ≤ 2 ^ (w + k)
longer w k =
    let more : w ≤ w + k = omega arith in
    pow_mono more

pub longer_ones : (w k m n : ℕ) → m ≡ 2 ^ (w + k) - 1 → n ≡ 2 ^ w - 1 → n ≤ m
longer_ones w k m n is_long is_short = omega (arith, longer w k)

-- the ones above
pub extended_below : (w k a m n : ℕ) → m ≡ 2 ^ (w + k) - 1 → n ≡ 2 ^ w - 1 → a < 2 ^ w → a + (m - n) < 2 ^ (w + k)
extended_below w k a m n is_long is_short less = omega (arith, longer w k, pow_pos w)

pub still_below : (w k a : ℕ) → a < 2 ^ w → a < 2 ^ (w + k)
still_below w k a less = omega (arith, longer w k)

-- the ones of w bits, where the width is read as k
pub shifted_ones_at : (w k : ℕ) → k ≡ w → k ≤ 64 → (2 ^ 64 - 1) / 2 ^ (64 - k) ≡ 2 ^ w - 1
shifted_ones_at w k same narrow = shifted_ones k narrow ∙ ap (λ j. 2 ^ j - 1) same

-- 0 - a, wrapped
pub borrowed_from_zero : (w a : ℕ) → w ≤ 64 → a < 2 ^ w → (0 + (2 ^ 64 - a)) % 2 ^ 64 % 2 ^ w ≡ (2 ^ w - a) % 2 ^ w
borrowed_from_zero w a narrow less =
    let none : 0 + (2 ^ w - a) ≡ 2 ^ w - a = omega arith in
    borrowed w 0 a narrow less ∙ ap (λ n. n % 2 ^ w) none

-- a shift by less than the width, wrapped
pub shifted : (w a b : ℕ) → w ≤ 64 → b < w → a * 2 ^ b % 2 ^ 64 % 2 ^ w ≡ (if nat_lt b w then a * 2 ^ b % 2 ^ w else 0)
shifted w a b narrow less = cut_twice w (a * 2 ^ b) narrow ∙ sym (if_less (nat_lt b w) (a * 2 ^ b % 2 ^ w) 0 (grind (arith, nat_tests, less)))

-- the same where the width is read in parts
pub still_below_at : (w k a v l n : ℕ) → v ≡ w → l ≡ v → n ≡ l + k → a < 2 ^ w → a < 2 ^ n
still_below_at w k a v l n width_is read long less =
    let whole : w + k ≡ n = omega arith in
    subst (λ j. a < 2 ^ j) whole (still_below w k a less)
