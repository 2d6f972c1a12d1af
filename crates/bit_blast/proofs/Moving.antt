-- Parts of words, words joined and moved, and the numbers that they carry.
use Rattle.std.proofs.Common.{◌≡◌, ℕ, zero, suc, ◌+◌, ◌-◌, ◌*◌, ◌/◌, ◌%◌, ◌^◌, ◌<◌, ◌≤◌, Bool, true, false, List, [], ◌∷◌, ◌++◌, length, take, drop, refl, ap, sym, ◌∙◌, subst, arith, length-append}
use Rattle.std.specs.Prelude.{replicate, nat_lt, min}
use Rattle.std.specs.List.{AllByRecursion}
use Rattle.std.proofs.lemmas.List.{take-append-drop, length-take-le}
use Rattle.std.proofs.lemmas.List.Elements.{recursion_from_All, All-from_recursion, All-append}
use Rattle.std.proofs.lemmas.Nat.{pow-add, pow_pos, shr_split, shr-shr, div-mul-add, mul-mod_first}
use Rattle.std.proofs.lemmas.Bool.Decides.{nat_tests}
use Rattle.std.proofs.Math.Nat.{add-mul-mod_self_left, mul-add-mod_self_right, mul-mod_left, mod-eq_of_lt, pow-succ', pow-zero, mul-le-mul_right, mul_comm}
use Rattle.gate_net.specs.declared.net.Net.{Net}
use Rattle.bit_blast.specs.Words.{number, carried, bits, word, IsWire, AreWires}
use Rattle.bit_blast.specs.Moves.{moved, shifted}
use Rattle.bit_blast.specs.declared.layout.Direction.{Direction}
use Rattle.bit_blast.specs.declared.layout.Direction.TheVariants.{Left, Right}
use Rattle.bit_blast.proofs.Growing.{bits-append, bits-repeated, length-bits, length-repeated, wires_repeated}
use Rattle.bit_blast.proofs.Numbers.{number-below, number-zeros}

-- ---- numbers

pub number-append : (xs ys : List Bool) → number (xs ++ ys) ≡ number xs + 2 ^ length xs * number ys
number-append [] ys = let one : 2 ^ 0 * number ys ≡ number ys = omega (arith, pow-zero 2) in omega (arith, one)
number-append (x ∷ xs) ys =
    let p : 2 ^ suc (length xs) * number ys ≡ 2 * 2 ^ length xs * number ys = ap (λ (q : ℕ). q * number ys) (pow-succ' 2 (length xs)) in
    omega (arith, number-append xs ys, p)

front_of : (n : ℕ) (xs : List Bool) → n ≤ length xs → number xs ≡ number (take n xs) + 2 ^ n * number (drop n xs)
front_of n xs h =
    ap number (sym (take-append-drop n xs)) ∙ number-append (take n xs) (drop n xs)
    ∙ ap (λ (k : ℕ). number (take n xs) + 2 ^ k * number (drop n xs)) (length-take-le n xs h)

take_below : (n : ℕ) (xs : List Bool) → n ≤ length xs → number (take n xs) < 2 ^ n
take_below n xs h = subst (λ (k : ℕ). number (take n xs) < 2 ^ k) (length-take-le n xs h) (number-below (take n xs))

pub number-take : (n : ℕ) (xs : List Bool) → n ≤ length xs → number (take n xs) ≡ number xs % 2 ^ n
number-take n xs h =
    sym (ap (λ (m : ℕ). m % 2 ^ n) (front_of n xs h) ∙ add-mul-mod_self_left (number (take n xs)) (2 ^ n) (number (drop n xs)) ∙ mod-eq_of_lt (take_below n xs h))

pub number-drop : (n : ℕ) (xs : List Bool) → n ≤ length xs → number (drop n xs) ≡ number xs / 2 ^ n
number-drop n xs h =
    let turned : number xs ≡ number (drop n xs) * 2 ^ n + number (take n xs) = omega (arith, front_of n xs h, mul_comm (2 ^ n) (number (drop n xs))) in
    sym (ap (λ (m : ℕ). m / 2 ^ n) turned ∙ div-mul-add (number (drop n xs)) (2 ^ n) (number (take n xs)) (take_below n xs h))

-- what is cut off before a move to the left is cut off behind it
pub cut_moved : (a j k : ℕ) → a % 2 ^ j * 2 ^ k ≡ a * 2 ^ k % 2 ^ (j + k)
cut_moved a j k =
    let q = a / 2 ^ j in
    let r = a % 2 ^ j in
    let whole : a * 2 ^ k ≡ a / 2 ^ j * (2 ^ j * 2 ^ k) + a % 2 ^ j * 2 ^ k = ap (λ (m : ℕ). m * 2 ^ k) (sym (shr_split a j)) ∙ grind arith in
    let less : a % 2 ^ j * 2 ^ k < 2 ^ j * 2 ^ k = cut_below (a % 2 ^ j) (2 ^ j) (2 ^ k) (omega (arith, pow_pos j)) (pow_pos k) in
    sym (ap (λ (m : ℕ). a * 2 ^ k % m) (pow-add 2 j k)
    ∙ ap (λ (m : ℕ). m % (2 ^ j * 2 ^ k)) whole
    ∙ mul-add-mod_self_right (a / 2 ^ j) (2 ^ j * 2 ^ k) (a % 2 ^ j * 2 ^ k)
    ∙ mod-eq_of_lt less)
  where
    cut_below : (x m p : ℕ) → x < m → zero < p → x * p < m * p
    cut_below x m p h k =
        let l : suc x * p ≤ m * p = mul-le-mul_right p (omega (arith, h)) in
        grind (arith, l, k)

-- ---- parts of words

bits-take : (ins : List Bool) (net : Net) (n : ℕ) (ws : List ℕ) → bits ins net (take n ws) ≡ take n (bits ins net ws)
bits-take ins net zero ws = refl
bits-take ins net (suc n) [] = refl
bits-take ins net (suc n) (w ∷ ws) = ap (λ (r : List Bool). carried ins net w ∷ r) (bits-take ins net n ws)

bits-drop : (ins : List Bool) (net : Net) (n : ℕ) (ws : List ℕ) → bits ins net (drop n ws) ≡ drop n (bits ins net ws)
bits-drop ins net zero ws = refl
bits-drop ins net (suc n) [] = refl
bits-drop ins net (suc n) (w ∷ ws) = bits-drop ins net n ws

in_range : (ins : List Bool) (net : Net) (n : ℕ) (ws : List ℕ) → n ≤ length ws → n ≤ length (bits ins net ws)
in_range ins net n ws h = omega (arith, h, length-bits ins net ws)

pub word-take : (ins : List Bool) (net : Net) (n : ℕ) (ws : List ℕ) → n ≤ length ws → word ins net (take n ws) ≡ word ins net ws % 2 ^ n
word-take ins net n ws h = ap number (bits-take ins net n ws) ∙ number-take n (bits ins net ws) (in_range ins net n ws h)

pub word-drop : (ins : List Bool) (net : Net) (n : ℕ) (ws : List ℕ) → n ≤ length ws → word ins net (drop n ws) ≡ word ins net ws / 2 ^ n
word-drop ins net n ws h = ap number (bits-drop ins net n ws) ∙ number-drop n (bits ins net ws) (in_range ins net n ws h)

pub word-append : (ins : List Bool) (net : Net) (vs ws : List ℕ) → word ins net (vs ++ ws) ≡ word ins net vs + 2 ^ length vs * word ins net ws
word-append ins net vs ws =
    ap number (bits-append ins net vs ws) ∙ number-append (bits ins net vs) (bits ins net ws)
    ∙ ap (λ (n : ℕ). word ins net vs + 2 ^ n * word ins net ws) (length-bits ins net vs)

pub word-zeros : (ins : List Bool) (net : Net) (n off : ℕ) → carried ins net off ≡ false → word ins net (replicate n off) ≡ 0
word-zeros ins net n off none = ap number (bits-repeated ins net n off ∙ ap (λ (b : Bool). replicate n b) none) ∙ number-zeros n

take-there : (net : Net) (n : ℕ) (ws : List ℕ) → AllByRecursion (IsWire net) ws → AllByRecursion (IsWire net) (take n ws)
take-there net zero ws h = tt
take-there net (suc n) [] h = tt
take-there net (suc n) (w ∷ ws) h = (h.0, take-there net n ws h.1)

drop-there : (net : Net) (n : ℕ) (ws : List ℕ) → AllByRecursion (IsWire net) ws → AllByRecursion (IsWire net) (drop n ws)
drop-there net zero ws h = h
drop-there net (suc n) [] h = tt
drop-there net (suc n) (w ∷ ws) h = drop-there net n ws h.1

pub wires_take : (net : Net) (n : ℕ) (ws : List ℕ) → AreWires net ws → AreWires net (take n ws)
wires_take net n ws h = All-from_recursion (IsWire net) (take n ws) (take-there net n ws (recursion_from_All (IsWire net) ws h))

pub wires_drop : (net : Net) (n : ℕ) (ws : List ℕ) → AreWires net ws → AreWires net (drop n ws)
wires_drop net n ws h = All-from_recursion (IsWire net) (drop n ws) (drop-there net n ws (recursion_from_All (IsWire net) ws h))

pub length_drop : (n : ℕ) (ws : List ℕ) → length (drop n ws) ≡ length ws - n
length_drop zero ws = omega arith
length_drop (suc n) [] = omega arith
length_drop (suc n) (w ∷ ws) = omega (arith, length_drop n ws)

-- ---- words that are moved

pub length_moved : (d : Direction) (by off : ℕ) (ws : List ℕ) → by ≤ length ws → length (moved d by off ws) ≡ length ws
length_moved Left by off ws h =
    omega (arith, h, length-append (replicate by off) (take (length ws - by) ws), length-repeated by off, length-take-le (length ws - by) ws (omega (arith, h)))
length_moved Right by off ws h = omega (arith, h, length-append (drop by ws) (replicate by off), length-repeated by off, length_drop by ws)

pub wires_moved : (net : Net) (d : Direction) (by off : ℕ) (ws : List ℕ) → AreWires net ws → IsWire net off → AreWires net (moved d by off ws)
wires_moved net Left by off ws h k = All-append (IsWire net) (replicate by off) (take (length ws - by) ws) (wires_repeated net by off k) (wires_take net (length ws - by) ws h)
wires_moved net Right by off ws h k = All-append (IsWire net) (drop by ws) (replicate by off) (wires_drop net by ws h) (wires_repeated net by off k)

pub word_moved : (ins : List Bool) (net : Net) (d : Direction) (by off : ℕ) (ws : List ℕ) → by ≤ length ws → carried ins net off ≡ false
    → word ins net (moved d by off ws) ≡ shifted d (length ws) (word ins net ws) by
word_moved ins net Left by off ws h none =
    let a = word ins net ws in
    let rest : length ws - by ≤ length ws = omega arith in
    let size : length ws - by + by ≡ length ws = omega (arith, h) in
    word-append ins net (replicate by off) (take (length ws - by) ws)
    ∙ ap (λ (n : ℕ). n + 2 ^ length (replicate by off) * word ins net (take (length ws - by) ws)) (word-zeros ins net by off none)
    ∙ ap (λ (n : ℕ). 0 + 2 ^ n * word ins net (take (length ws - by) ws)) (length-repeated by off)
    ∙ ap (λ (n : ℕ). 0 + 2 ^ by * n) (word-take ins net (length ws - by) ws rest)
    ∙ turned (2 ^ by) (word ins net ws % 2 ^ (length ws - by))
    ∙ cut_moved (word ins net ws) (length ws - by) by
    ∙ ap (λ (n : ℕ). word ins net ws * 2 ^ by % 2 ^ n) size
  where
    turned : (p x : ℕ) → 0 + p * x ≡ x * p
    turned p x = omega (arith, mul_comm p x)
word_moved ins net Right by off ws h none =
    let plain : word ins net ws / 2 ^ by + 2 ^ length (drop by ws) * 0 ≡ word ins net ws / 2 ^ by = omega arith in
    word-append ins net (drop by ws) (replicate by off)
    ∙ ap (λ (n : ℕ). word ins net (drop by ws) + 2 ^ length (drop by ws) * n) (word-zeros ins net by off none)
    ∙ ap (λ (n : ℕ). n + 2 ^ length (drop by ws) * 0) (word-drop ins net by ws h)
    ∙ plain

-- one move after another
pub shifted-add : (d : Direction) (w a n k : ℕ) → shifted d w (shifted d w a n) k ≡ shifted d w a (n + k)
shifted-add Left w a n k =
    mul-mod_first (a * 2 ^ n) (2 ^ k) (2 ^ w)
    ∙ ap (λ (m : ℕ). m % 2 ^ w) (grouped a (2 ^ n) (2 ^ k) ∙ ap (λ (m : ℕ). a * m) (sym (pow-add 2 n k)))
  where
    grouped : (x y z : ℕ) → x * y * z ≡ x * (y * z)
    grouped x y z = grind arith
shifted-add Right w a n k = shr-shr a n k

nothing_left : (w x k : ℕ) → w ≤ k → x * 2 ^ k % 2 ^ w ≡ 0
nothing_left w x k h =
    let size : k ≡ k - w + w = omega (arith, h) in
    ap (λ (m : ℕ). x * 2 ^ m % 2 ^ w) size
    ∙ ap (λ (m : ℕ). x * m % 2 ^ w) (pow-add 2 (k - w) w)
    ∙ ap (λ (m : ℕ). m % 2 ^ w) (grouped x (2 ^ (k - w)) (2 ^ w))
    ∙ mul-mod_left (x * 2 ^ (k - w)) (2 ^ w)
  where
    grouped : (x y z : ℕ) → x * (y * z) ≡ x * y * z
    grouped x y z = grind arith

pub small_quotient : (a p : ℕ) → a < p → a / p ≡ 0
small_quotient a p h = let e : 0 * p + a ≡ a = omega arith in ap (λ (m : ℕ). m / p) (sym e) ∙ div-mul-add 0 p a h

pub larger_power : (w k : ℕ) → w ≤ k → 2 ^ w ≤ 2 ^ k
larger_power w k h =
    let size : k ≡ k - w + w = omega (arith, h) in
    let split : 2 ^ k ≡ 2 ^ (k - w) * 2 ^ w = ap (λ (m : ℕ). 2 ^ m) size ∙ pow-add 2 (k - w) w in
    let more : 1 * 2 ^ w ≤ 2 ^ (k - w) * 2 ^ w = mul-le-mul_right (2 ^ w) (pow_pos (k - w)) in
    omega (arith, split, more)

-- a move by the whole width or more leaves nothing
pub all_gone : (d : Direction) (w a k : ℕ) → a < 2 ^ w → w ≤ k → shifted d w a k ≡ 0
all_gone Left w a k l h = nothing_left w a k h
all_gone Right w a k l h = small_quotient a (2 ^ k) (omega (arith, l, larger_power w k h))

pub shifted_capped : (d : Direction) (w a k : ℕ) → a < 2 ^ w → shifted d w a (min k w) ≡ shifted d w a k
shifted_capped d w a k l = by (nat_lt k w) refl
  where
    by : (b : Bool) → nat_lt k w ≡ b → shifted d w a (min k w) ≡ shifted d w a k
    by true h = let e : min k w ≡ k = grind (arith, nat_tests, h) in ap (shifted d w a) e
    by false h =
        let e : min k w ≡ w = grind (arith, nat_tests, h) in
        let le : w ≤ k = grind (arith, nat_tests, h) in
        ap (shifted d w a) e ∙ all_gone d w a w l (omega arith) ∙ sym (all_gone d w a k l le)
