-- Signed numbers, and words that are cut, joined and made longer.
use Rattle.std.proofs.Common.{◌≡◌, ℕ, zero, suc, ◌+◌, ◌-◌, ◌*◌, ◌%◌, ◌^◌, ◌<◌, ◌≤◌, Bool, true, false, not, ◌&&◌, List, ◌++◌, length, get_or, take, drop, refl, ap, sym, ◌∙◌, subst, arith, length-append, if◌then◌else◌}
use Rattle.std.specs.Prelude.{replicate, nat_eq}
use Rattle.std.proofs.lemmas.Bool.Decides.{nat_tests}
use Rattle.std.proofs.lemmas.List.{length-take-le}
use Rattle.std.proofs.lemmas.List.Elements.{All-append}
use Rattle.std.proofs.lemmas.Nat.{pow-add}
use Rattle.std.proofs.Math.Nat.{mod_self, mod-add-mod, pow-succ', pow-zero, mul_comm}
use Rattle.hy_val.specs.Bits.{is_negative, absolute, negated_if, signs_differ, bvadd, bvneg, bvudiv, bvurem, bvsdiv, bvsrem, bvsmod, bvsmod_of, concat, extract, sign_extend}
use Rattle.gate_net.specs.Net.{xor}
use Rattle.gate_net.specs.declared.net.Net.{Net}
use Rattle.bit_blast.specs.Words.{bit, number, carried, word, IsWire, AreWires, IsWord, Grows, Says, Means}
use Rattle.bit_blast.proofs.Growing.{grows_then, same_word, as_before, bits-repeated, length-repeated, wires_repeated, wires_stay}
use Rattle.bit_blast.proofs.Moving.{word-take, word-drop, word-append, word-zeros, wires_take, wires_drop, length_drop}
use Rattle.bit_blast.proofs.Comparing.{sign_is}

pub negated_table : (t : Bool) (w a : ℕ) → (if t then bvneg w a else a) ≡ negated_if t w a
negated_table true w a = refl
negated_table false w a = refl

pub negated_law : (n0 n1 n2 : Net) (as' os out ts : List ℕ) (on j k : ℕ) → Grows n0 n1 j → Grows n1 n2 k → AreWires n0 as' → IsWire n0 on → ts ≡ os
    → Means n1 os (λ ins. bvneg (length as') (word ins n0 as'))
    → Means n2 out (λ ins. if carried ins n1 on then word ins n1 ts else word ins n1 as')
    → Means n2 out (λ ins. negated_if (carried ins n0 on) (length as') (word ins n0 as'))
negated_law n0 n1 n2 as' os out ts on j k g1 g2 wa won is neg chosen ins e2 =
    let e1 : length ins ≡ n1.inputs = as_before ins g2 e2 in
    let e0 : length ins ≡ n0.inputs = as_before ins g1 e1 in
    chosen ins e2
    ∙ ap (λ (b : Bool). if b then word ins n1 ts else word ins n1 as') (g1.kept ins e0 on won)
    ∙ ap (λ (n : ℕ). if carried ins n0 on then n else word ins n1 as') (ap (word ins n1) is ∙ neg ins e1)
    ∙ ap (λ (n : ℕ). if carried ins n0 on then bvneg (length as') (word ins n0 as') else n) (same_word ins as' g1 e0 wa)
    ∙ negated_table (carried ins n0 on) (length as') (word ins n0 as')

pub absolute_law : (ins : List Bool) (net : Net) (as' : List ℕ) (i : ℕ) → length as' ≡ i + 1
    → negated_if (carried ins net (get_or as' i 0)) (length as') (word ins net as') ≡ absolute (length as') (word ins net as')
absolute_law ins net as' i h =
    sym (negated_table (carried ins net (get_or as' i 0)) (length as') (word ins net as'))
    ∙ ap (λ (b : Bool). if b then bvneg (length as') (word ins net as') else word ins net as') (sym (sign_is ins net as' i (length as') h refl))

-- the remainder with the sign of the divisor
smod_zero : (w : ℕ) (na nb : Bool) → negated_if na w 0 ≡ 0
smod_zero w true nb = let p : 2 ^ w - 0 ≡ 2 ^ w = omega arith in ap (λ (n : ℕ). n % 2 ^ w) p ∙ mod_self (2 ^ w)
smod_zero w false nb = refl

pub smod_by : (w b u : ℕ) (na nb z : Bool) → nat_eq u 0 ≡ z
    → (if not z && xor na nb then bvadd w (negated_if na w u) b else negated_if na w u) ≡ (if z then 0 else bvsmod_of na nb w b u)
smod_by w b u na nb true h = let none : u ≡ 0 = grind (arith, nat_tests, h) in ap (negated_if na w) none ∙ smod_zero w na nb
smod_by w b u true true false h = refl
smod_by w b u true false false h =
    let turned : 2 ^ w - u + b ≡ b + (2 ^ w - u) = omega arith in
    mod-add-mod (2 ^ w - u) (2 ^ w) b ∙ ap (λ (n : ℕ). n % 2 ^ w) turned
smod_by w b u false true false h = refl
smod_by w b u false false false h = refl

-- ---- parts and longer words

pub extract_law : (ins : List Bool) (net : Net) (ws out : List ℕ) (hi lo : ℕ) → lo ≤ hi → hi ≤ length ws → out ≡ take (hi - lo) (drop lo ws) → word ins net out ≡ extract hi lo (word ins net ws)
extract_law ins net ws out hi lo h l is =
    ap (word ins net) is
    ∙ word-take ins net (hi - lo) (drop lo ws) (omega (arith, length_drop lo ws, h, l))
    ∙ ap (λ (n : ℕ). n % 2 ^ (hi - lo)) (word-drop ins net lo ws (omega (arith, h, l)))

pub extract_word : (net : Net) (ws out : List ℕ) (hi lo : ℕ) → lo ≤ hi → hi ≤ length ws → out ≡ take (hi - lo) (drop lo ws) → AreWires net ws → IsWord net (hi - lo) out
extract_word net ws out hi lo h l is wa = subst (IsWord net (hi - lo)) (sym is) (record {
  width = length-take-le (hi - lo) (drop lo ws) (omega (arith, length_drop lo ws, h, l));
  there = wires_take net (hi - lo) (drop lo ws) (wires_drop net lo ws wa);
})

pub concat_law : (ins : List Bool) (net : Net) (as' bs out : List ℕ) → out ≡ bs ++ as' → word ins net out ≡ concat (length bs) (word ins net as') (word ins net bs)
concat_law ins net as' bs out is =
    ap (word ins net) is ∙ word-append ins net bs as' ∙ turned (word ins net bs) (2 ^ length bs) (word ins net as')
  where
    turned : (b p a : ℕ) → b + p * a ≡ a * p + b
    turned b p a = omega (arith, mul_comm p a)

pub joined_word : (net : Net) (as' bs out : List ℕ) (w : ℕ) → out ≡ bs ++ as' → AreWires net as' → AreWires net bs → w ≡ length bs + length as' → IsWord net w out
joined_word net as' bs out w is wa wb h = subst (IsWord net w) (sym is) (record {
  width = length-append bs as' ∙ sym h;
  there = All-append (IsWire net) bs as' wb wa;
})

number-ones : (n : ℕ) → number (replicate n true) + 1 ≡ 2 ^ n
number-ones zero = omega (arith, pow-zero 2)
number-ones (suc n) = omega (arith, number-ones n, pow-succ' 2 n)

copies_by : (w k : ℕ) (t : Bool) (a : ℕ) → number (replicate k false) ≡ 0 → a + 2 ^ w * number (replicate k t) ≡ (if t then a + (2 ^ (w + k) - 2 ^ w) else a)
copies_by w k true a z =
    let p : 2 ^ (w + k) ≡ 2 ^ w * 2 ^ k = pow-add 2 w k in
    let q : 2 ^ w * (number (replicate k true) + 1) ≡ 2 ^ w * 2 ^ k = ap (λ (n : ℕ). 2 ^ w * n) (number-ones k) in
    omega (arith, p, q)
copies_by w k false a z =
    let none : a + 2 ^ w * 0 ≡ a = omega arith in
    ap (λ (n : ℕ). a + 2 ^ w * n) z ∙ none

zeros_number : (n : ℕ) → number (replicate n false) ≡ 0
zeros_number zero = refl
zeros_number (suc n) = ap (λ (m : ℕ). bit false + 2 * m) (zeros_number n)

pub sign_law : (ins : List Bool) (net : Net) (ws out : List ℕ) (i more : ℕ) → length ws ≡ i + 1 → out ≡ ws ++ replicate more (get_or ws i 0)
    → word ins net out ≡ sign_extend (length ws) more (word ins net ws)
sign_law ins net ws out i more h is =
    ap (word ins net) is
    ∙ word-append ins net ws (replicate more (get_or ws i 0))
    ∙ ap (λ (l : List Bool). word ins net ws + 2 ^ length ws * number l) (bits-repeated ins net more (get_or ws i 0))
    ∙ copies_by (length ws) more (carried ins net (get_or ws i 0)) (word ins net ws) (zeros_number more)
    ∙ ap (λ (b : Bool). if b then word ins net ws + (2 ^ (length ws + more) - 2 ^ length ws) else word ins net ws) (sym (sign_is ins net ws i (length ws) h refl))

pub zero_law : (n0 n1 : Net) (ws out : List ℕ) (off more j : ℕ) → Grows n0 n1 j → AreWires n0 ws → Says n1 off (λ ins. false) → out ≡ ws ++ replicate more off → Means n1 out (λ ins. word ins n0 ws)
zero_law n0 n1 ws out off more j g wa none is ins e =
    let plain : word ins n0 ws + 2 ^ length ws * 0 ≡ word ins n0 ws = omega arith in
    ap (word ins n1) is
    ∙ word-append ins n1 ws (replicate more off)
    ∙ ap (λ (n : ℕ). word ins n1 ws + 2 ^ length ws * n) (word-zeros ins n1 more off (none ins e))
    ∙ ap (λ (n : ℕ). n + 2 ^ length ws * 0) (same_word ins ws g (as_before ins g e) wa)
    ∙ plain

-- ---- signed division

-- both absolute values, on the net where they are divided
pub absolute_words : (n0 n1 n2 : Net) (as' bs lefts rights ls rs : List ℕ) (j k : ℕ) → Grows n0 n1 j → Grows n1 n2 k → AreWires n0 bs → length bs ≡ length as' → IsWord n1 (length as') lefts → ls ≡ lefts → rs ≡ rights
    → Means n1 lefts (λ ins. absolute (length as') (word ins n0 as')) → Means n2 rights (λ ins. absolute (length bs) (word ins n1 bs))
    → (ins : List Bool) → length ins ≡ n2.inputs → (word ins n2 ls ≡ absolute (length as') (word ins n0 as')) × (word ins n2 rs ≡ absolute (length as') (word ins n0 bs))
absolute_words n0 n1 n2 as' bs lefts rights ls rs j k g1 g2 wb same wl is_l is_r left right ins e2 =
    let e1 : length ins ≡ n1.inputs = as_before ins g2 e2 in (
      ap (word ins n2) is_l ∙ same_word ins lefts g2 e1 wl.there ∙ left ins e1,
      ap (word ins n2) is_r ∙ right ins e2 ∙ ap (λ (n : ℕ). absolute (length bs) n) (same_word ins bs g1 (as_before ins g1 e1) wb) ∙ ap (λ (n : ℕ). absolute n (word ins n0 bs)) same,
    )

signs_table : (a b : Bool) → xor a b ≡ signs_differ a b
signs_table true true = refl
signs_table true false = refl
signs_table false true = refl
signs_table false false = refl

-- the sign bits of a and b
pub record Signs (net : Net) (as' bs : List ℕ) (s t : ℕ) : Type 0 where
  pub left : IsWire net s
  pub right : IsWire net t
  pub is_left : (ins : List Bool) → is_negative (length as') (word ins net as') ≡ carried ins net s
  pub is_right : (ins : List Bool) → is_negative (length as') (word ins net bs) ≡ carried ins net t

pub signs : (net : Net) (as' bs : List ℕ) → 0 < length as' → length bs ≡ length as' → AreWires net as' → AreWires net bs → Signs net as' bs (get_or as' (length as' - 1) 0) (get_or bs (length bs - 1) 0)
signs net as' bs some same wa wb =
    let a : length as' ≡ length as' - 1 + 1 = omega (arith, some) in
    let b : length bs ≡ length bs - 1 + 1 = omega (arith, some, same) in
    record {
      left = wa (length as' - 1) 0 (omega (arith, some));
      right = wb (length bs - 1) 0 (omega (arith, some, same));
      is_left = λ ins. sign_is ins net as' (length as' - 1) (length as') a refl;
      is_right = λ ins. sign_is ins net bs (length bs - 1) (length as') b (sym same);
    }

pub sdiv_law : (n0 n1 n2 n3 : Net) (as' bs qs ts out : List ℕ) (s t d j k l : ℕ) → Grows n0 n1 j → Grows n1 n2 k → Grows n2 n3 l → Signs n0 as' bs s t → IsWord n1 (length as') qs → ts ≡ qs
    → Means n1 qs (λ ins. bvudiv (length as') (absolute (length as') (word ins n0 as')) (absolute (length as') (word ins n0 bs)))
    → Says n2 d (λ ins. xor (carried ins n1 s) (carried ins n1 t))
    → Means n3 out (λ ins. negated_if (carried ins n2 d) (length ts) (word ins n2 ts))
    → Means n3 out (λ ins. bvsdiv (length as') (word ins n0 as') (word ins n0 bs))
sdiv_law n0 n1 n2 n3 as' bs qs ts out s t d j k l g1 g2 g3 sg wq is quot differ law ins e3 =
    let e2 : length ins ≡ n2.inputs = as_before ins g3 e3 in
    let e1 : length ins ≡ n1.inputs = as_before ins g2 e2 in
    let e0 : length ins ≡ n0.inputs = as_before ins g1 e1 in
    let w = length as' in
    let q = bvudiv (length as') (absolute (length as') (word ins n0 as')) (absolute (length as') (word ins n0 bs)) in
    let flag : carried ins n2 d ≡ signs_differ (is_negative (length as') (word ins n0 as')) (is_negative (length as') (word ins n0 bs)) =
    differ ins e2
    ∙ ap (λ (b : Bool). xor b (carried ins n1 t)) (g1.kept ins e0 s sg.left)
    ∙ ap (λ (b : Bool). xor (carried ins n0 s) b) (g1.kept ins e0 t sg.right)
    ∙ signs_table (carried ins n0 s) (carried ins n0 t)
    ∙ ap (λ (b : Bool). signs_differ b (carried ins n0 t)) (sym (sg.is_left ins))
    ∙ ap (λ (b : Bool). signs_differ (is_negative (length as') (word ins n0 as')) b) (sym (sg.is_right ins)) in
    let size : length ts ≡ length as' = ap length is ∙ wq.width in
    let value : word ins n2 ts ≡ bvudiv (length as') (absolute (length as') (word ins n0 as')) (absolute (length as') (word ins n0 bs)) =
    ap (word ins n2) is ∙ same_word ins qs g2 e1 wq.there ∙ quot ins e1 in
    law ins e3
    ∙ ap (λ (b : Bool). negated_if b (length ts) (word ins n2 ts)) flag
    ∙ ap (λ (n : ℕ). negated_if (signs_differ (is_negative (length as') (word ins n0 as')) (is_negative (length as') (word ins n0 bs))) n (word ins n2 ts)) size
    ∙ ap (λ (n : ℕ). negated_if (signs_differ (is_negative (length as') (word ins n0 as')) (is_negative (length as') (word ins n0 bs))) (length as') n) value

pub srem_law : (n0 n1 n2 : Net) (as' bs rs ts out : List ℕ) (s t j k : ℕ) → Grows n0 n1 j → Grows n1 n2 k → Signs n0 as' bs s t → IsWord n1 (length as') rs → ts ≡ rs
    → Means n1 rs (λ ins. bvurem (length as') (absolute (length as') (word ins n0 as')) (absolute (length as') (word ins n0 bs)))
    → Means n2 out (λ ins. negated_if (carried ins n1 s) (length ts) (word ins n1 ts))
    → Means n2 out (λ ins. bvsrem (length as') (word ins n0 as') (word ins n0 bs))
srem_law n0 n1 n2 as' bs rs ts out s t j k g1 g2 sg wr is rem law ins e2 =
    let e1 : length ins ≡ n1.inputs = as_before ins g2 e2 in
    let e0 : length ins ≡ n0.inputs = as_before ins g1 e1 in
    let size : length ts ≡ length as' = ap length is ∙ wr.width in
    law ins e2
    ∙ ap (λ (b : Bool). negated_if b (length ts) (word ins n1 ts)) (g1.kept ins e0 s sg.left ∙ sym (sg.is_left ins))
    ∙ ap (λ (n : ℕ). negated_if (is_negative (length as') (word ins n0 as')) n (word ins n1 ts)) size
    ∙ ap (λ (n : ℕ). negated_if (is_negative (length as') (word ins n0 as')) (length as') n) (ap (word ins n1) is ∙ rem ins e1)

pub smod_law : (n0 n1 n2 n3 n4 n5 n6 n7 : Net) (as' bs rs us vs ss xs ts ys zs out : List ℕ) (s t some d back j k l m p q r : ℕ)
    → Grows n0 n1 j → Grows n1 n2 k → Grows n2 n3 l → Grows n3 n4 m → Grows n4 n5 p → Grows n5 n6 q → Grows n6 n7 r → Signs n0 as' bs s t → AreWires n0 bs
    → IsWord n1 (length as') rs → us ≡ rs → vs ≡ rs → IsWord n2 (length as') ss → xs ≡ ss → zs ≡ ss → IsWord n3 (length as') ts → ys ≡ ts → IsWire n4 some
    → Means n1 rs (λ ins. bvurem (length as') (absolute (length as') (word ins n0 as')) (absolute (length as') (word ins n0 bs)))
    → Means n2 ss (λ ins. negated_if (carried ins n1 s) (length us) (word ins n1 us))
    → Means n3 ts (λ ins. bvadd (length xs) (word ins n2 xs) (word ins n2 bs))
    → Says n4 some (λ ins. not (nat_eq (word ins n3 vs) 0))
    → Says n5 d (λ ins. xor (carried ins n4 s) (carried ins n4 t))
    → Says n6 back (λ ins. carried ins n5 some && carried ins n5 d)
    → Means n7 out (λ ins. if carried ins n6 back then word ins n6 ys else word ins n6 zs)
    → Means n7 out (λ ins. bvsmod (length as') (word ins n0 as') (word ins n0 bs))
smod_law n0 n1 n2 n3 n4 n5 n6 n7 as' bs rs us vs ss xs ts ys zs out s t some d back j k l m p q r g1 g2 g3 g4 g5 g6 g7 sg wb wr is_u is_v ws is_x is_z wt is_y wsome rem neg sum any differ both law ins e7 =
    let e6 : length ins ≡ n6.inputs = as_before ins g7 e7 in
    let e5 : length ins ≡ n5.inputs = as_before ins g6 e6 in
    let e4 : length ins ≡ n4.inputs = as_before ins g5 e5 in
    let e3 : length ins ≡ n3.inputs = as_before ins g4 e4 in
    let e2 : length ins ≡ n2.inputs = as_before ins g3 e3 in
    let e1 : length ins ≡ n1.inputs = as_before ins g2 e2 in
    let e0 : length ins ≡ n0.inputs = as_before ins g1 e1 in
    let g02 : Grows n0 n2 (j + k) = grows_then g1 g2 (omega arith) in
    let g13 : Grows n1 n3 (k + l) = grows_then g2 g3 (omega arith) in
    let g04 : Grows n0 n4 (j + k + (l + m)) = grows_then g02 (grows_then {n = l + m} g3 g4 (omega arith)) (omega arith) in
    let g36 : Grows n3 n6 (m + p + q) = grows_then (grows_then {n = m + p} g4 g5 (omega arith)) g6 (omega arith) in
    let g26 : Grows n2 n6 (l + (m + p + q)) = grows_then g3 g36 (omega arith) in
    let na : carried ins n0 s ≡ is_negative (length as') (word ins n0 as') = sym (sg.is_left ins) in
    let nb : carried ins n0 t ≡ is_negative (length as') (word ins n0 bs) = sym (sg.is_right ins) in
    let u : ℕ = bvurem (length as') (absolute (length as') (word ins n0 as')) (absolute (length as') (word ins n0 bs)) in
    let rest : word ins n2 ss ≡ negated_if (carried ins n0 s) (length as') (bvurem (length as') (absolute (length as') (word ins n0 as')) (absolute (length as') (word ins n0 bs))) =
    neg ins e2
    ∙ ap (λ (b : Bool). negated_if b (length us) (word ins n1 us)) (g1.kept ins e0 s sg.left)
    ∙ ap (λ (n : ℕ). negated_if (carried ins n0 s) n (word ins n1 us)) (ap length is_u ∙ wr.width)
    ∙ ap (λ (n : ℕ). negated_if (carried ins n0 s) (length as') n) (ap (word ins n1) is_u ∙ rem ins e1) in
    let more : word ins n3 ts ≡ bvadd (length as') (word ins n2 ss) (word ins n0 bs) =
    sum ins e3
    ∙ ap (λ (n : ℕ). bvadd n (word ins n2 xs) (word ins n2 bs)) (ap length is_x ∙ ws.width)
    ∙ ap (λ (n : ℕ). bvadd (length as') n (word ins n2 bs)) (ap (word ins n2) is_x)
    ∙ ap (λ (n : ℕ). bvadd (length as') (word ins n2 ss) n) (same_word ins bs g02 e0 wb) in
    let flag : carried ins n6 back ≡ (not (nat_eq (bvurem (length as') (absolute (length as') (word ins n0 as')) (absolute (length as') (word ins n0 bs))) 0) && xor (carried ins n0 s) (carried ins n0 t)) =
    both ins e6
    ∙ ap (λ (b : Bool). b && carried ins n5 d) (g5.kept ins e4 some wsome ∙ any ins e4)
    ∙ ap (λ (n : ℕ). not (nat_eq n 0) && carried ins n5 d) (ap (word ins n3) is_v ∙ same_word ins rs g13 e1 wr.there ∙ rem ins e1)
    ∙ ap (λ (b : Bool). not (nat_eq (bvurem (length as') (absolute (length as') (word ins n0 as')) (absolute (length as') (word ins n0 bs))) 0) && b)
    (differ ins e5 ∙ ap (λ (b : Bool). xor b (carried ins n4 t)) (g04.kept ins e0 s sg.left) ∙ ap (λ (b : Bool). xor (carried ins n0 s) b) (g04.kept ins e0 t sg.right)) in
    law ins e7
    ∙ ap (λ (b : Bool). if b then word ins n6 ys else word ins n6 zs) flag
    ∙ ap (λ (n : ℕ). if not (nat_eq (bvurem (length as') (absolute (length as') (word ins n0 as')) (absolute (length as') (word ins n0 bs))) 0) && xor (carried ins n0 s) (carried ins n0 t) then n else word ins n6 zs)
    (ap (word ins n6) is_y ∙ same_word ins ts g36 e3 wt.there ∙ more ∙ ap (λ (n : ℕ). bvadd (length as') n (word ins n0 bs)) rest)
    ∙ ap (λ (n : ℕ). if not (nat_eq (bvurem (length as') (absolute (length as') (word ins n0 as')) (absolute (length as') (word ins n0 bs))) 0) && xor (carried ins n0 s) (carried ins n0 t)
    then bvadd (length as') (negated_if (carried ins n0 s) (length as') (bvurem (length as') (absolute (length as') (word ins n0 as')) (absolute (length as') (word ins n0 bs)))) (word ins n0 bs) else n)
    (ap (word ins n6) is_z ∙ same_word ins ss g26 e2 ws.there ∙ rest)
    ∙ smod_by (length as') (word ins n0 bs) (bvurem (length as') (absolute (length as') (word ins n0 as')) (absolute (length as') (word ins n0 bs))) (carried ins n0 s) (carried ins n0 t)
    (nat_eq (bvurem (length as') (absolute (length as') (word ins n0 as')) (absolute (length as') (word ins n0 bs))) 0) refl
    ∙ ap (λ (b : Bool). if nat_eq (bvurem (length as') (absolute (length as') (word ins n0 as')) (absolute (length as') (word ins n0 bs))) 0 then 0 else bvsmod_of b (carried ins n0 t) (length as') (word ins n0 bs) (bvurem (length as') (absolute (length as') (word ins n0 as')) (absolute (length as') (word ins n0 bs)))) na
    ∙ ap (λ (b : Bool). if nat_eq (bvurem (length as') (absolute (length as') (word ins n0 as')) (absolute (length as') (word ins n0 bs))) 0 then 0 else bvsmod_of (is_negative (length as') (word ins n0 as')) b (length as') (word ins n0 bs) (bvurem (length as') (absolute (length as') (word ins n0 as')) (absolute (length as') (word ins n0 bs)))) nb

pub sign_word : (net : Net) (ws out : List ℕ) (i more : ℕ) → i < length ws → out ≡ ws ++ replicate more (get_or ws i 0) → AreWires net ws → IsWord net (length ws + more) out
sign_word net ws out i more h is wa =
    let size : length ws + more ≡ length ws + length (replicate more (get_or ws i 0)) = ap (λ (n : ℕ). length ws + n) (sym (length-repeated more (get_or ws i 0))) in
    joined_word net (replicate more (get_or ws i 0)) ws out (length ws + more) is (wires_repeated net more (get_or ws i 0) (wa i 0 h)) wa size

pub zero_word : (n0 n1 : Net) (ws out : List ℕ) (off more j : ℕ) → Grows n0 n1 j → AreWires n0 ws → IsWire n1 off → out ≡ ws ++ replicate more off → IsWord n1 (length ws + more) out
zero_word n0 n1 ws out off more j g wa woff is =
    let size : length ws + more ≡ length ws + length (replicate more off) = ap (λ (n : ℕ). length ws + n) (sym (length-repeated more off)) in
    joined_word n1 (replicate more off) ws out (length ws + more) is (wires_repeated n1 more off woff) (wires_stay ws g wa) size
