-- Bits as numbers.
use Rattle.std.proofs.Common.{◌≡◌, ℕ, zero, suc, ◌+◌, ◌-◌, ◌*◌, ◌%◌, ◌^◌, ◌<◌, Bool, true, false, not, ◌&&◌, List, [], ◌∷◌, ◌++◌, length, map, refl, ap, sym, ◌∙◌, arith, if◌then◌else◌}
use Rattle.std.specs.Prelude.{bit_and, bit_or, bit_xor, nat_le, replicate}
use Rattle.std.proofs.lemmas.Nat.{and_block, or_block, xor_block}
use Rattle.std.proofs.lemmas.Bool.Decides.{nat_tests}
use Rattle.std.proofs.Math.Nat.{add-mul-mod_self_left, mod-eq_of_lt, pow-succ', pow-zero}
use Rattle.gate_net.specs.Net.{xor}
use Rattle.bit_blast.specs.Words.{bit, number}
use Rattle.bit_blast.specs.Pairings.{zipped}

pub number-push : (bs : List Bool) (b : Bool) → number (bs ++ b ∷ []) ≡ number bs + 2 ^ length bs * bit b
number-push [] true = omega (arith, pow-zero 2)
number-push [] false = omega (arith, pow-zero 2)
number-push (x ∷ bs) true = omega (arith, number-push bs true, pow-succ' 2 (length bs))
number-push (x ∷ bs) false = omega (arith, number-push bs false, pow-succ' 2 (length bs))

pub number-below : (bs : List Bool) → number bs < 2 ^ length bs
number-below [] = omega (arith, pow-zero 2)
number-below (true ∷ bs) = omega (arith, number-below bs, pow-succ' 2 (length bs))
number-below (false ∷ bs) = omega (arith, number-below bs, pow-succ' 2 (length bs))

pub zipped-push : (f : Bool → Bool → Bool) (xs ys : List Bool) (x y : Bool) → length xs ≡ length ys → zipped f (xs ++ x ∷ []) (ys ++ y ∷ []) ≡ zipped f xs ys ++ f x y ∷ []
zipped-push f [] [] x y h = refl
zipped-push f [] (b ∷ ys) x y h = absurd (omega (arith, h))
zipped-push f (a ∷ xs) [] x y h = absurd (omega (arith, h))
zipped-push f (a ∷ xs) (b ∷ ys) x y h = ap (λ (r : List Bool). f a b ∷ r) (zipped-push f xs ys x y (omega (arith, h)))

-- ---- operators on each bit

-- an operator on numbers that works on each bit
pub number-zipped : (f : Bool → Bool → Bool) (op : ℕ → ℕ → ℕ) → op 0 0 ≡ 0
    → ((a b : Bool) (x y : ℕ) → op (bit a + 2 * x) (bit b + 2 * y) ≡ bit (f a b) + 2 * op x y)
    → (xs ys : List Bool) → length xs ≡ length ys → number (zipped f xs ys) ≡ op (number xs) (number ys)
number-zipped f op none step [] [] h = sym none
number-zipped f op none step [] (b ∷ ys) h = absurd (omega (arith, h))
number-zipped f op none step (a ∷ xs) [] h = absurd (omega (arith, h))
number-zipped f op none step (a ∷ xs) (b ∷ ys) h =
    ap (λ (n : ℕ). bit (f a b) + 2 * n) (number-zipped f op none step xs ys (omega (arith, h))) ∙ sym (step a b (number xs) (number ys))

small : (a : Bool) → bit a < 2 ^ 1
small true = omega arith
small false = omega arith

front : (a : Bool) (x : ℕ) → bit a + 2 * x ≡ x * 2 ^ 1 + bit a
front a x = omega arith

back : (n : ℕ) (a : Bool) → n * 2 ^ 1 + bit a ≡ bit a + 2 * n
back n a = omega arith

and_table : (a b : Bool) → bit_and (bit a) (bit b) ≡ bit (a && b)
and_table true true = refl
and_table true false = refl
and_table false true = refl
and_table false false = refl

or_table : (a b : Bool) → bit_or (bit a) (bit b) ≡ bit (if a then a else b)
or_table true true = refl
or_table true false = refl
or_table false true = refl
or_table false false = refl

xor_table : (a b : Bool) → bit_xor (bit a) (bit b) ≡ bit (xor a b)
xor_table true true = refl
xor_table true false = refl
xor_table false true = refl
xor_table false false = refl

pub and_step : (a b : Bool) (x y : ℕ) → bit_and (bit a + 2 * x) (bit b + 2 * y) ≡ bit (a && b) + 2 * bit_and x y
and_step a b x y =
    ap (λ (n : ℕ). bit_and n (bit b + 2 * y)) (front a x) ∙ ap (λ (n : ℕ). bit_and (x * 2 ^ 1 + bit a) n) (front b y)
    ∙ and_block 1 x y (bit a) (bit b) (small a) (small b) ∙ ap (λ (n : ℕ). bit_and x y * 2 ^ 1 + n) (and_table a b) ∙ back (bit_and x y) (a && b)

pub or_step : (a b : Bool) (x y : ℕ) → bit_or (bit a + 2 * x) (bit b + 2 * y) ≡ bit (if a then a else b) + 2 * bit_or x y
or_step a b x y =
    ap (λ (n : ℕ). bit_or n (bit b + 2 * y)) (front a x) ∙ ap (λ (n : ℕ). bit_or (x * 2 ^ 1 + bit a) n) (front b y)
    ∙ or_block 1 x y (bit a) (bit b) (small a) (small b) ∙ ap (λ (n : ℕ). bit_or x y * 2 ^ 1 + n) (or_table a b) ∙ back (bit_or x y) (if a then a else b)

pub xor_step : (a b : Bool) (x y : ℕ) → bit_xor (bit a + 2 * x) (bit b + 2 * y) ≡ bit (xor a b) + 2 * bit_xor x y
xor_step a b x y =
    ap (λ (n : ℕ). bit_xor n (bit b + 2 * y)) (front a x) ∙ ap (λ (n : ℕ). bit_xor (x * 2 ^ 1 + bit a) n) (front b y)
    ∙ xor_block 1 x y (bit a) (bit b) (small a) (small b) ∙ ap (λ (n : ℕ). bit_xor x y * 2 ^ 1 + n) (xor_table a b) ∙ back (bit_xor x y) (xor a b)

pub zipped-first : (f : Bool → Bool → Bool) → ((a b : Bool) → f a b ≡ a) → (xs ys : List Bool) → length xs ≡ length ys → zipped f xs ys ≡ xs
zipped-first f same [] ys h = refl
zipped-first f same (a ∷ xs) [] h = absurd (omega (arith, h))
zipped-first f same (a ∷ xs) (b ∷ ys) h = ap (λ (x : Bool). x ∷ zipped f xs ys) (same a b) ∙ ap (λ (r : List Bool). a ∷ r) (zipped-first f same xs ys (omega (arith, h)))

pub zipped-second : (f : Bool → Bool → Bool) → ((a b : Bool) → f a b ≡ b) → (xs ys : List Bool) → length xs ≡ length ys → zipped f xs ys ≡ ys
zipped-second f same [] [] h = refl
zipped-second f same [] (b ∷ ys) h = absurd (omega (arith, h))
zipped-second f same (a ∷ xs) [] h = absurd (omega (arith, h))
zipped-second f same (a ∷ xs) (b ∷ ys) h = ap (λ (x : Bool). x ∷ zipped f xs ys) (same a b) ∙ ap (λ (r : List Bool). b ∷ r) (zipped-second f same xs ys (omega (arith, h)))

-- with the same bit at each place
pub zipped-replicate : (f : Bool → Bool → Bool) (b : Bool) (xs : List Bool) → zipped f xs (replicate (length xs) b) ≡ map (λ (a : Bool). f a b) xs
zipped-replicate f b [] = refl
zipped-replicate f b (a ∷ xs) = ap (λ (r : List Bool). f a b ∷ r) (zipped-replicate f b xs)

pub number-kept : (f : Bool → Bool) → ((a : Bool) → f a ≡ a) → (xs : List Bool) → number (map f xs) ≡ number xs
number-kept f same [] = refl
number-kept f same (a ∷ xs) = ap (λ (x : Bool). bit x + 2 * number (map f xs)) (same a) ∙ ap (λ (n : ℕ). bit a + 2 * n) (number-kept f same xs)

pub number-none : (f : Bool → Bool) → ((a : Bool) → f a ≡ false) → (xs : List Bool) → number (map f xs) ≡ 0
number-none f none [] = refl
number-none f none (a ∷ xs) = ap (λ (x : Bool). bit x + 2 * number (map f xs)) (none a) ∙ ap (λ (n : ℕ). bit false + 2 * n) (number-none f none xs)

number_turned : (xs : List Bool) → number (map not xs) + number xs + 1 ≡ 2 ^ length xs
number_turned [] = omega (arith, pow-zero 2)
number_turned (true ∷ xs) = omega (arith, number_turned xs, pow-succ' 2 (length xs))
number_turned (false ∷ xs) = omega (arith, number_turned xs, pow-succ' 2 (length xs))

number_same : (f g : Bool → Bool) → ((a : Bool) → f a ≡ g a) → (xs : List Bool) → number (map f xs) ≡ number (map g xs)
number_same f g same [] = refl
number_same f g same (a ∷ xs) = ap (λ (x : Bool). bit x + 2 * number (map f xs)) (same a) ∙ ap (λ (n : ℕ). bit (g a) + 2 * n) (number_same f g same xs)

pub number-turned : (f : Bool → Bool) → ((a : Bool) → f a ≡ not a) → (xs : List Bool) → number (map f xs) ≡ 2 ^ length xs - 1 - number xs
number-turned f same xs = number_same f not same xs ∙ omega (arith, number_turned xs)

pub number-zeros : (n : ℕ) → number (replicate n false) ≡ 0
number-zeros zero = refl
number-zeros (suc n) = ap (λ (m : ℕ). bit false + 2 * m) (number-zeros n)

-- ---- sums

pub full_table : (a b c : Bool) → bit (xor (xor a b) c) + 2 * bit (if xor a b then c else a) ≡ bit a + bit b + bit c
full_table true true true = refl
full_table true true false = refl
full_table true false true = refl
full_table true false false = refl
full_table false true true = refl
full_table false true false = refl
full_table false false true = refl
full_table false false false = refl

pub sum_step : (p out c a b k s c' x y : ℕ) → out + p * c ≡ a + b + k → s + 2 * c' ≡ x + y + c → (out + p * s) + (2 * p) * c' ≡ (a + p * x) + (b + p * y) + k
sum_step p out c a b k s c' x y h l =
    let q : p * (s + 2 * c') ≡ p * (x + y + c) = ap (λ (n : ℕ). p * n) l in
    omega (arith, h, q)

-- what is left below the carry
pub sum_end : (p out c ab : ℕ) → out < p → out + p * c ≡ ab → out ≡ ab % p
sum_end p out c ab l h = sym (ap (λ (n : ℕ). n % p) (sym h) ∙ add-mul-mod_self_left out p c ∙ mod-eq_of_lt l)

-- the carry of a difference
pub difference_end : (p a b out : ℕ) (c : Bool) → out < p → a < p → b < p → out + p * bit c ≡ a + (p - 1 - b) + 1 → (out ≡ (a + (p - b)) % p) × (c ≡ nat_le b a)
difference_end p a b out true lo la lb h =
    let one : p * bit true ≡ p = omega arith in
    let whole : a + (p - 1 - b) + 1 ≡ a + (p - b) = omega (arith, lb) in
    (sum_end p out (bit true) (a + (p - b)) lo (h ∙ whole), grind (arith, nat_tests, h, one, lb, lo))
difference_end p a b out false lo la lb h =
    let none : p * bit false ≡ 0 = omega arith in
    let whole : a + (p - 1 - b) + 1 ≡ a + (p - b) = omega (arith, lb) in
    (sum_end p out (bit false) (a + (p - b)) lo (h ∙ whole), grind (arith, nat_tests, h, none, lb, lo))
