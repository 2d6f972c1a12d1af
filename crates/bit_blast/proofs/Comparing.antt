-- Comparisons of words.
use Rattle.std.proofs.Common.{◌≡◌, ℕ, suc, ◌+◌, ◌-◌, ◌*◌, ◌^◌, ◌<◌, Bool, true, false, not, List, [], ◌∷◌, ◌++◌, length, get_or, take, refl, ap, sym, ◌∙◌, subst, arith, length-append, if◌then◌else◌}
use Rattle.std.specs.Prelude.{bit_xor, nat_eq, nat_lt, nat_le, pos, ◌-ℤ◌, int_lt, int_le}
use Rattle.std.specs.Int.Bits.{xor_self, xor_add_and}
use Rattle.std.proofs.lemmas.Int.{ints}
use Rattle.std.proofs.lemmas.List.{length-take-le}
use Rattle.std.proofs.lemmas.List.Elements.{All-push}
use Rattle.std.proofs.lemmas.Nat.{and_le_l, and_le_r, pow_pos}
use Rattle.std.proofs.lemmas.Bool.Decides.{nat_tests}
use Rattle.std.proofs.Math.Nat.{pow-succ'}
use Rattle.hy_val.specs.Biased.{biased}
use Rattle.hy_val.specs.Bits.{is_negative, bvslt, bvsle}
use Rattle.gate_net.specs.Net.{gate_value, values}
use Rattle.gate_net.specs.declared.net.Net.{Net}
use Rattle.gate_net.specs.declared.net.NetGate.TheVariants as gate
use Rattle.bit_blast.specs.Words.{bit, carried, word, IsWire, AreWires, IsWord, Grows, Says, Means}
use Rattle.bit_blast.proofs.Growing.{same_word, as_before, as_after, word-push, word_more, word-below, wires_stay}
use Rattle.bit_blast.proofs.Adding.{whole_word}
use Rattle.bit_blast.proofs.Moving.{wires_take}

-- ---- some bit

some_table : (b r : Bool) (n p : ℕ) → 0 < p → r ≡ not (nat_eq n 0) → (if b then b else r) ≡ not (nat_eq (n + p * bit b) 0)
some_table true r n p h k =
    let off : nat_eq (n + p * bit true) 0 ≡ false = grind (arith, nat_tests, h) in
    sym (ap not off)
some_table false r n p h k =
    let same : n + p * bit false ≡ n = omega arith in
    k ∙ ap (λ (m : ℕ). not (nat_eq m 0)) (sym same)

pub any_law : (old net new : Net) (i j k : ℕ) (as' : List ℕ) (some next : ℕ) → AreWires old as' → i < length as' → Grows old net j → Grows net new k
    → Says new next (λ ins. gate_value (values ins net.gates.items) (gate.Mux (get_or as' i 0) (get_or as' i 0) some))
    → ((ins : List Bool) → length ins ≡ old.inputs → carried ins net some ≡ not (nat_eq (word ins old (take i as')) 0))
    → (ins : List Bool) → length ins ≡ old.inputs → carried ins new next ≡ not (nat_eq (word ins old (take (i + 1) as')) 0)
any_law old net new i j k as' some next wa less g1 g2 says law ins e =
    let x = get_or as' i 0 in
    says ins (as_after ins g2 (as_after ins g1 e))
    ∙ ap (λ (b : Bool). if b then b else carried ins net some) (g1.kept ins e (get_or as' i 0) (wa i 0 less))
    ∙ some_table (carried ins old (get_or as' i 0)) (carried ins net some) (word ins old (take i as')) (2 ^ i) (pow_pos i) (law ins e)
    ∙ ap (λ (m : ℕ). not (nat_eq m 0)) (sym (word_more ins old as' i 0 less))

-- ---- equality and order

pub xor_zero : (a b : ℕ) → nat_eq (bit_xor a b) 0 ≡ nat_eq a b
xor_zero a b = by (nat_eq (bit_xor a b) 0) (nat_eq a b) refl refl
  where
    by : (x y : Bool) → nat_eq (bit_xor a b) 0 ≡ x → nat_eq a b ≡ y → nat_eq (bit_xor a b) 0 ≡ nat_eq a b
    by true true h k = h ∙ sym k
    by false false h k = h ∙ sym k
    by true false h k =
        let none : bit_xor a b ≡ 0 = grind (arith, nat_tests, h) in
        let same : a ≡ b = omega (arith, none, xor_add_and a b, and_le_l a b, and_le_r a b) in
        absurd (grind (arith, nat_tests, k, same))
    by false true h k =
        let same : a ≡ b = grind (arith, nat_tests, k) in
        let none : bit_xor a b ≡ 0 = ap (bit_xor a) (sym same) ∙ xor_self a in
        absurd (grind (arith, nat_tests, h, none))

pub not_not : (b : Bool) → not (not b) ≡ b
not_not true = refl
not_not false = refl

pub not_at_most : (a b : ℕ) → not (nat_le b a) ≡ nat_lt a b
not_at_most a b = by (nat_le b a) (nat_lt a b) refl refl
  where
    by : (x y : Bool) → nat_le b a ≡ x → nat_lt a b ≡ y → not (nat_le b a) ≡ nat_lt a b
    by true false h k = ap not h ∙ sym k
    by false true h k = ap not h ∙ sym k
    by true true h k = absurd (grind (arith, nat_tests, h, k))
    by false false h k = absurd (grind (arith, nat_tests, h, k))

pub equal_law : (n0 n1 n2 n3 : Net) (as' bs ds : List ℕ) (differ wire j k l : ℕ) → Grows n0 n1 j → Grows n1 n2 k → Grows n2 n3 l
    → Means n1 ds (λ ins. bit_xor (word ins n0 as') (word ins n0 bs)) → Says n2 differ (λ ins. not (nat_eq (word ins n1 ds) 0)) → Says n3 wire (λ ins. not (carried ins n2 differ))
    → Says n3 wire (λ ins. nat_eq (word ins n0 as') (word ins n0 bs))
equal_law n0 n1 n2 n3 as' bs ds differ wire j k l g1 g2 g3 xors some none ins e3 =
    let e2 : length ins ≡ n2.inputs = as_before ins g3 e3 in
    let e1 : length ins ≡ n1.inputs = as_before ins g2 e2 in
    none ins e3
    ∙ ap not (some ins e2)
    ∙ not_not (nat_eq (word ins n1 ds) 0)
    ∙ ap (λ (m : ℕ). nat_eq m 0) (xors ins e1)
    ∙ xor_zero (word ins n0 as') (word ins n0 bs)

pub below_law : (n0 n1 n2 : Net) (as' bs : List ℕ) (c wire j k : ℕ) → Grows n0 n1 j → Grows n1 n2 k
    → Says n1 c (λ ins. nat_le (word ins n0 bs) (word ins n0 as')) → Says n2 wire (λ ins. not (carried ins n1 c)) → Says n2 wire (λ ins. nat_lt (word ins n0 as') (word ins n0 bs))
below_law n0 n1 n2 as' bs c wire j k g1 g2 least none ins e2 =
    none ins e2 ∙ ap not (least ins (as_before ins g2 e2)) ∙ not_at_most (word ins n0 as') (word ins n0 bs)

-- ---- the sign bit

if_so : (b : Bool) (x y : ℕ) → b ≡ true → (if b then x else y) ≡ x
if_so true x y h = refl
if_so false x y h = cc

pub if_not : (b : Bool) (x y : ℕ) → b ≡ false → (if b then x else y) ≡ y
if_not true x y h = cc
if_not false x y h = refl

high_test : (n p : ℕ) (t : Bool) → n < p → nat_le p (n + p * bit t) ≡ t
high_test n p true h = grind (arith, nat_tests, h)
high_test n p false h = let none : p * bit false ≡ 0 = omega arith in grind (arith, nat_tests, h, none)

flip_table : (n p : ℕ) (t : Bool) → n < p → n + p * bit (not t) ≡ (if nat_le p (n + p * bit t) then n + p * bit t - p else n + p * bit t + p)
flip_table n p true h =
    let plain : n + p * bit (not true) ≡ n + p * bit true - p = omega arith in
    plain ∙ sym (if_so (nat_le p (n + p * bit true)) (n + p * bit true - p) (n + p * bit true + p) (high_test n p true h))
flip_table n p false h =
    let plain : n + p * bit (not false) ≡ n + p * bit false + p = omega arith in
    plain ∙ sym (if_not (nat_le p (n + p * bit false)) (n + p * bit false - p) (n + p * bit false + p) (high_test n p false h))

-- a word by its highest bit
pub by_sign : (ins : List Bool) (net : Net) (ws : List ℕ) (i : ℕ) → length ws ≡ i + 1
    → word ins net ws ≡ word ins net (take i ws) + 2 ^ i * bit (carried ins net (get_or ws i 0))
by_sign ins net ws i h = ap (word ins net) (sym (whole_word ws (i + 1) (sym h))) ∙ word_more ins net ws i 0 (omega (arith, h))

pub low_below : (ins : List Bool) (net : Net) (ws : List ℕ) (i : ℕ) → length ws ≡ i + 1 → word ins net (take i ws) < 2 ^ i
low_below ins net ws i h = subst (λ (n : ℕ). word ins net (take i ws) < 2 ^ n) (length-take-le i ws (omega (arith, h))) (word-below ins net (take i ws))

pub sign_is : (ins : List Bool) (net : Net) (ws : List ℕ) (i w : ℕ) → length ws ≡ i + 1 → w ≡ length ws → is_negative w (word ins net ws) ≡ carried ins net (get_or ws i 0)
sign_is ins net ws i w h k =
    let place : w - 1 ≡ i = omega (arith, h, k) in
    ap (λ (n : ℕ). nat_le (2 ^ n) (word ins net ws)) place
    ∙ ap (nat_le (2 ^ i)) (by_sign ins net ws i h)
    ∙ high_test (word ins net (take i ws)) (2 ^ i) (carried ins net (get_or ws i 0)) (low_below ins net ws i h)

pub biased_law : (n0 n1 : Net) (as' out : List ℕ) (i sign j : ℕ) → Grows n0 n1 j → AreWires n0 as' → length as' ≡ i + 1 → out ≡ take i as' ++ sign ∷ [] → Says n1 sign (λ ins. not (carried ins n0 (get_or as' i 0)))
    → Means n1 out (λ ins. biased (length as') (word ins n0 as'))
biased_law n0 n1 as' out i sign j g wa h is says ins e1 =
    let e0 : length ins ≡ n0.inputs = as_before ins g e1 in
    let n = word ins n0 (take i as') in
    let t = carried ins n0 (get_or as' i 0) in
    let place : length as' - 1 ≡ i = omega (arith, h) in
    ap (word ins n1) is
    ∙ word-push ins n1 (take i as') sign
    ∙ ap (λ (m : ℕ). word ins n1 (take i as') + 2 ^ m * bit (carried ins n1 sign)) (length-take-le i as' (omega (arith, h)))
    ∙ ap (λ (m : ℕ). m + 2 ^ i * bit (carried ins n1 sign)) (same_word ins (take i as') g e0 (wires_take n0 i as' wa))
    ∙ ap (λ (b : Bool). word ins n0 (take i as') + 2 ^ i * bit b) (says ins e1)
    ∙ flip_table (word ins n0 (take i as')) (2 ^ i) (carried ins n0 (get_or as' i 0)) (low_below ins n0 as' i h)
    ∙ ap (λ (m : ℕ). if nat_le (2 ^ i) m then m - 2 ^ i else m + 2 ^ i) (sym (by_sign ins n0 as' i h))
    ∙ ap (λ (m : ℕ). if nat_le (2 ^ m) (word ins n0 as') then word ins n0 as' - 2 ^ m else word ins n0 as' + 2 ^ m) (sym place)

pub biased_word : (n0 n1 : Net) (as' out : List ℕ) (i sign j : ℕ) → Grows n0 n1 j → AreWires n0 as' → length as' ≡ i + 1 → out ≡ take i as' ++ sign ∷ [] → IsWire n1 sign → IsWord n1 (length as') out
biased_word n0 n1 as' out i sign j g wa h is ws = subst (λ (l : List ℕ). IsWord n1 (length as') l) (sym is) (record {
  width = omega (arith, length-append (take i as') (sign ∷ []), length-take-le i as' (omega (arith, h)), h);
  there = All-push (IsWire n1) (take i as') sign (wires_stay (take i as') g (wires_take n0 i as' wa)) ws;
})

-- the order of signed numbers
half : (w : ℕ) → 0 < w → 2 ^ w ≡ 2 * 2 ^ (w - 1)
half w h = let e : w ≡ suc (w - 1) = omega (arith, h) in ap (λ (n : ℕ). 2 ^ n) e ∙ pow-succ' 2 (w - 1)

below_by : (h p a b : ℕ) (s t : Bool) → p ≡ 2 * h → a < p → b < p → nat_le h a ≡ s → nat_le h b ≡ t
    → nat_lt (if s then a - h else a + h) (if t then b - h else b + h) ≡ int_lt (if s then pos a -ℤ pos p else pos a) (if t then pos b -ℤ pos p else pos b)
below_by h p a b true true e la lb sa sb = grind (arith, ints, nat_tests)
below_by h p a b true false e la lb sa sb = grind (arith, ints, nat_tests)
below_by h p a b false true e la lb sa sb = grind (arith, ints, nat_tests)
below_by h p a b false false e la lb sa sb = grind (arith, ints, nat_tests)

most_by : (h p a b : ℕ) (s t : Bool) → p ≡ 2 * h → a < p → b < p → nat_le h a ≡ s → nat_le h b ≡ t
    → nat_le (if s then a - h else a + h) (if t then b - h else b + h) ≡ int_le (if s then pos a -ℤ pos p else pos a) (if t then pos b -ℤ pos p else pos b)
most_by h p a b true true e la lb sa sb = grind (arith, ints, nat_tests)
most_by h p a b true false e la lb sa sb = grind (arith, ints, nat_tests)
most_by h p a b false true e la lb sa sb = grind (arith, ints, nat_tests)
most_by h p a b false false e la lb sa sb = grind (arith, ints, nat_tests)

pub signed_below : (w a b : ℕ) → 0 < w → a < 2 ^ w → b < 2 ^ w → nat_lt (biased w a) (biased w b) ≡ bvslt w a b
signed_below w a b h la lb = below_by (2 ^ (w - 1)) (2 ^ w) a b (is_negative w a) (is_negative w b) (half w h) la lb refl refl

pub signed_most : (w a b : ℕ) → 0 < w → a < 2 ^ w → b < 2 ^ w → nat_le (biased w a) (biased w b) ≡ bvsle w a b
signed_most w a b h la lb = most_by (2 ^ (w - 1)) (2 ^ w) a b (is_negative w a) (is_negative w b) (half w h) la lb refl refl

-- both words with their signs turned, on the net where they are compared
pub order_words : (n0 n1 n2 : Net) (as' bs lefts rights ls rs : List ℕ) (j k : ℕ) → Grows n0 n1 j → Grows n1 n2 k → AreWires n0 bs → length bs ≡ length as' → IsWord n1 (length as') lefts → ls ≡ lefts → rs ≡ rights
    → Means n1 lefts (λ ins. biased (length as') (word ins n0 as')) → Means n2 rights (λ ins. biased (length bs) (word ins n1 bs))
    → (ins : List Bool) → length ins ≡ n2.inputs → (word ins n2 ls ≡ biased (length as') (word ins n0 as')) × (word ins n2 rs ≡ biased (length as') (word ins n0 bs))
order_words n0 n1 n2 as' bs lefts rights ls rs j k g1 g2 wb same wl is_l is_r left right ins e2 =
    let e1 : length ins ≡ n1.inputs = as_before ins g2 e2 in (
      ap (word ins n2) is_l ∙ same_word ins lefts g2 e1 wl.there ∙ left ins e1,
      ap (word ins n2) is_r ∙ right ins e2 ∙ ap (λ (n : ℕ). biased (length bs) n) (same_word ins bs g1 (as_before ins g1 e1) wb) ∙ ap (λ (n : ℕ). biased n (word ins n0 bs)) same,
    )
