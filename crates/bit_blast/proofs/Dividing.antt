-- Restoring division.
use Rattle.std.proofs.Common.{◌≡◌, ℕ, zero, suc, ◌+◌, ◌-◌, ◌*◌, ◌/◌, ◌%◌, ◌^◌, ◌<◌, ◌≤◌, Bool, true, false, List, [], ◌∷◌, ◌++◌, length, get_or, take, drop, refl, ap, sym, ◌∙◌, subst, arith, if◌then◌else◌}
use Rattle.std.specs.Prelude.{reverse, nat_eq, nat_le}
use Rattle.std.specs.List.{AllByRecursion}
use Rattle.std.proofs.lemmas.List.Elements.{recursion_from_All, All-from_recursion}
use Rattle.std.proofs.lemmas.Bool.Decides.{nat_tests}
use Rattle.std.proofs.lemmas.List.{reverse-append, length-reverse}
use Rattle.std.proofs.lemmas.Nat.{div-mul-add, mod-mul-add}
use Rattle.std.proofs.Math.Seq.{drop-cons}
use Rattle.std.proofs.Math.Nat.{mod-eq_of_lt, pow-succ', pow-zero, add-mod_right}
use Rattle.hy_val.specs.Bits.{bvudiv, bvurem, bvsub}
use Rattle.gate_net.specs.declared.net.Net.{Net}
use Rattle.bit_blast.specs.Words.{bit, carried, word, IsWire, AreWires, IsWord, Grows, Says, Means}
use Rattle.bit_blast.specs.Division.{restored}
use Rattle.bit_blast.proofs.Comparing.{if_not}
use Rattle.bit_blast.proofs.Growing.{same_word, as_before, as_after, word-below}
use Rattle.bit_blast.proofs.Moving.{word-take, word-drop, length_drop, larger_power, small_quotient}

-- ---- one step

-- q and r are the quotient and the remainder of what is divided so far, by i bits
pub record Divides (d i top q r : ℕ) : Type 0 where
  pub sum : q * d + r ≡ top
  pub below : 0 < d → r < d
  pub none : d ≡ 0 → q + 1 ≡ 2 ^ i

restored_small : (d r b p top : ℕ) (t : Bool) → nat_le d (b + 2 * r) ≡ t → b < 2 → (0 < d → r < d) → d < p → b + 2 * r ≤ top → (d ≡ 0 → b + 2 * r < p) → (if t then b + 2 * r - d else b + 2 * r) < p
restored_small zero r b p top true h lb lr ld le z = let s = z refl in omega (arith, s)
restored_small (suc d) r b p top true h lb lr ld le z = let l = lr (omega arith) in omega (arith, l, lb, ld)
restored_small d r b p top false h lb lr ld le z = let l : b + 2 * r < d = grind (arith, nat_tests, h) in omega (arith, l, ld)

restored_below : (d r b : ℕ) (t : Bool) → nat_le d (b + 2 * r) ≡ t → b < 2 → (0 < d → r < d) → 0 < d → (if t then b + 2 * r - d else b + 2 * r) < d
restored_below d r b true h lb lr some = let l = lr some in omega (arith, l, lb)
restored_below d r b false h lb lr some = grind (arith, nat_tests, h)

restored_sum : (d r b q top : ℕ) (t : Bool) → nat_le d (b + 2 * r) ≡ t → q * d + r ≡ top → (bit t + 2 * q) * d + (if t then b + 2 * r - d else b + 2 * r) ≡ b + 2 * top
restored_sum d r b q top true h e =
    let le : d ≤ b + 2 * r = grind (arith, nat_tests, h) in
    let p : (bit true + 2 * q) * d ≡ d + 2 * (q * d) = grind arith in
    omega (arith, p, e, le)
restored_sum d r b q top false h e =
    let p : (bit false + 2 * q) * d ≡ 2 * (q * d) = grind arith in
    omega (arith, p, e)

restored_none : (d s q i : ℕ) (t : Bool) → nat_le d s ≡ t → (d ≡ 0 → q + 1 ≡ 2 ^ i) → d ≡ 0 → bit t + 2 * q + 1 ≡ 2 ^ (i + 1)
restored_none d s q i true h none z =
    let p : 2 ^ (i + 1) ≡ 2 * 2 ^ i = (let e : i + 1 ≡ suc i = omega arith in ap (λ (n : ℕ). 2 ^ n) e ∙ pow-succ' 2 i) in
    let n = none z in
    omega (arith, p, n)
restored_none d s q i false h none z = absurd (grind (arith, nat_tests, h, z))

small_bit : (b : Bool) → bit b < 2
small_bit true = omega arith
small_bit false = omega arith

pub step_divides : (d i top q r p r' : ℕ) (b t : Bool) → Divides d i top q r → d < p → bit b + 2 * top < p → t ≡ nat_le d (bit b + 2 * r) → r' ≡ restored d (bit b + 2 * r) % p
    → Divides d (i + 1) (bit b + 2 * top) (bit t + 2 * q) r'
step_divides d i top q r p r' b t h ld lt is_t is_r =
    let test : nat_le d (bit b + 2 * r) ≡ t = sym is_t in
    let x = if t then bit b + 2 * r - d else bit b + 2 * r in
    let le : bit b + 2 * r ≤ bit b + 2 * top = omega (arith, h.sum) in
    let small : (if t then bit b + 2 * r - d else bit b + 2 * r) < p =
    restored_small d r (bit b) p (bit b + 2 * top) t test (small_bit b) h.below ld le (λ z. omega (arith, le, lt)) in
    let rest : r' ≡ (if t then bit b + 2 * r - d else bit b + 2 * r) =
    is_r ∙ ap (λ (c : Bool). (if c then bit b + 2 * r - d else bit b + 2 * r) % p) test ∙ mod-eq_of_lt small in
    record {
      sum = ap (λ (n : ℕ). (bit t + 2 * q) * d + n) rest ∙ restored_sum d r (bit b) q top t test h.sum;
      below = λ some. subst (λ (n : ℕ). n < d) (sym rest) (restored_below d r (bit b) t test (small_bit b) h.below some);
      none = restored_none d (bit b + 2 * r) q i t test h.none;
    }

-- ---- the end

pub quotient_is : (w a d q r : ℕ) → Divides d w a q r → q ≡ bvudiv w a d
quotient_is w a zero q r h = let n = h.none refl in omega (arith, n)
quotient_is w a (suc d) q r h =
    let off : nat_eq (suc d) 0 ≡ false = grind (arith, nat_tests) in
    sym (ap (λ (n : ℕ). n / suc d) (sym h.sum) ∙ div-mul-add q (suc d) r (h.below (omega arith)))
    ∙ sym (if_not (nat_eq (suc d) 0) (2 ^ w - 1) (a / suc d) off)

pub remainder_is : (w a d q r : ℕ) → Divides d w a q r → r ≡ bvurem w a d
remainder_is w a zero q r h = let z : q * 0 + r ≡ r = omega arith in sym z ∙ h.sum
remainder_is w a (suc d) q r h =
    let off : nat_eq (suc d) 0 ≡ false = grind (arith, nat_tests) in
    sym (ap (λ (n : ℕ). n % suc d) (sym h.sum) ∙ mod-mul-add q (suc d) r (h.below (omega arith)))
    ∙ sym (if_not (nat_eq (suc d) 0) a (a % suc d) off)

-- ---- words

-- what is divided from a place of the dividend on
pub next_bit : (ins : List Bool) (net : Net) (ws : List ℕ) (k : ℕ) → k < length ws → word ins net (drop k ws) ≡ bit (carried ins net (get_or ws k 0)) + 2 * word ins net (drop (k + 1) ws)
next_bit ins net ws k h = let e : suc k ≡ k + 1 = omega arith in ap (word ins net) (drop-cons ws k 0 h) ∙ ap (λ (n : ℕ). bit (carried ins net (get_or ws k 0)) + 2 * word ins net (drop n ws)) e

-- the digits so far, highest first
pub digits : List Bool → Net → List ℕ → ℕ
digits ins net ws = word ins net (reverse ws)

pub wires_reversed : (net : Net) (ws : List ℕ) → AreWires net ws → AreWires net (reverse ws)
wires_reversed net ws h = All-from_recursion (IsWire net) (reverse ws) (go ws (recursion_from_All (IsWire net) ws h))
  where
    push : (us : List ℕ) (k : ℕ) → AllByRecursion (IsWire net) us → IsWire net k → AllByRecursion (IsWire net) (us ++ k ∷ [])
    push [] k h l = (l, tt)
    push (u ∷ us) k h l = (h.0, push us k h.1 l)

    go : (us : List ℕ) → AllByRecursion (IsWire net) us → AllByRecursion (IsWire net) (reverse us)
    go [] h = tt
    go (u ∷ us) h = subst (AllByRecursion (IsWire net)) (sym (reverse-append (u ∷ []) us)) (push (reverse us) u (go us h.1) h.0)

digits_push : (ins : List Bool) (net : Net) (ds : List ℕ) (s : ℕ) → word ins net (reverse (ds ++ s ∷ [])) ≡ bit (carried ins net s) + 2 * word ins net (reverse ds)
digits_push ins net ds s = ap (word ins net) (reverse-append ds (s ∷ []))

pub take_law : (n0 n1 n2 : Net) (rs ws fs ds ls ks rs' : List ℕ) (x c w j k : ℕ) → Grows n0 n1 j → Grows n1 n2 k → AreWires n0 rs → IsWire n0 x → w ≡ length rs → length ws ≡ w + 1
    → fs ≡ x ∷ rs → length ds ≡ w + 1 → ls ≡ take w ds → ks ≡ take w fs
    → Means n1 ds (λ ins. bvsub (length fs) (word ins n0 fs) (word ins n0 ws))
    → Says n1 c (λ ins. nat_le (word ins n0 ws) (word ins n0 fs))
    → Means n2 rs' (λ ins. if carried ins n1 c then word ins n1 ls else word ins n1 ks)
    → Means n2 rs' (λ ins. restored (word ins n0 ws) (bit (carried ins n0 x) + 2 * word ins n0 rs) % 2 ^ length rs)
take_law n0 n1 n2 rs ws fs ds ls ks rs' x c w j k g1 g2 wr wx size lw is_f ld is_l is_k diff goes chosen ins e2 =
    let e1 : length ins ≡ n1.inputs = as_before ins g2 e2 in
    let e0 : length ins ≡ n0.inputs = as_before ins g1 e1 in
    let s : word ins n0 fs ≡ bit (carried ins n0 x) + 2 * word ins n0 rs = ap (word ins n0) is_f in
    let lf : length fs ≡ w + 1 = omega (arith, ap length is_f, size) in
    let wf : AreWires n0 fs = subst (AreWires n0) (sym is_f) (All-from_recursion (IsWire n0) (x ∷ rs) (wx, recursion_from_All (IsWire n0) rs wr)) in
    let less : word ins n1 ls ≡ bvsub (w + 1) (word ins n0 fs) (word ins n0 ws) % 2 ^ w =
    ap (word ins n1) is_l ∙ word-take ins n1 w ds (omega (arith, ld)) ∙ ap (λ (n : ℕ). n % 2 ^ w) (diff ins e1 ∙ ap (λ (n : ℕ). bvsub n (word ins n0 fs) (word ins n0 ws)) lf) in
    let kept : word ins n1 ks ≡ word ins n0 fs % 2 ^ w =
    ap (word ins n1) is_k ∙ word-take ins n1 w fs (omega (arith, lf)) ∙ ap (λ (n : ℕ). n % 2 ^ w) (same_word ins fs g1 e0 wf) in
    let below : word ins n0 fs < 2 ^ (w + 1) = subst (λ (n : ℕ). word ins n0 fs < 2 ^ n) lf (word-below ins n0 fs) in
    chosen ins e2
    ∙ ap (λ (n : ℕ). if carried ins n1 c then n else word ins n1 ks) less
    ∙ ap (λ (n : ℕ). if carried ins n1 c then bvsub (w + 1) (word ins n0 fs) (word ins n0 ws) % 2 ^ w else n) kept
    ∙ by_goes (word ins n0 fs) (word ins n0 ws) (2 ^ (w + 1)) (2 ^ w) (carried ins n1 c) below (goes ins e1)
    ∙ ap (λ (n : ℕ). restored (word ins n0 ws) n % 2 ^ w) s
    ∙ ap (λ (n : ℕ). restored (word ins n0 ws) (bit (carried ins n0 x) + 2 * word ins n0 rs) % 2 ^ n) size
  where
    by_goes : (s d q p : ℕ) (t : Bool) → s < q → t ≡ nat_le d s → (if t then (s + (q - d)) % q % p else s % p) ≡ restored d s % p
    by_goes s d q p true l h =
        let le : d ≤ s = grind (arith, nat_tests, h) in
        let back : s + (q - d) ≡ s - d + q = omega (arith, l, le) in
        let small : s - d < q = omega (arith, l) in
        ap (λ (n : ℕ). n % q % p) back ∙ ap (λ (n : ℕ). n % p) (add-mod_right (s - d) q ∙ mod-eq_of_lt small) ∙ ap (λ (b : Bool). (if b then s - d else s) % p) h
    by_goes s d q p false l h = ap (λ (b : Bool). (if b then s - d else s) % p) h

pub divide_law : (old net new : Net) (i j k w n : ℕ) (as' bs ws rs ds rs' : List ℕ) (s : ℕ)
    → AreWires old as' → w ≡ length as' → length bs ≡ w → i < w → n ≡ length as' - 1 - i → Grows old net j → Grows net new k → AreWires net ds → length rs ≡ w
    → ((ins : List Bool) → length ins ≡ old.inputs → word ins net ws ≡ word ins old bs)
    → Means new rs' (λ ins. restored (word ins net ws) (bit (carried ins net (get_or as' n 0)) + 2 * word ins net rs) % 2 ^ length rs)
    → Says new s (λ ins. nat_le (word ins net ws) (bit (carried ins net (get_or as' n 0)) + 2 * word ins net rs))
    → ((ins : List Bool) → length ins ≡ old.inputs → Divides (word ins old bs) i (word ins old (drop (w - i) as')) (word ins net (reverse ds)) (word ins net rs))
    → (ins : List Bool) → length ins ≡ old.inputs → Divides (word ins old bs) (i + 1) (word ins old (drop (w - (i + 1)) as')) (word ins new (reverse (ds ++ s ∷ []))) (word ins new rs')
divide_law old net new i j k w n as' bs ws rs ds rs' s wa size lb less place g1 g2 wd lr divisor rest goes law ins e =
    let ex : length ins ≡ net.inputs = as_after ins g1 e in
    let e2 : length ins ≡ new.inputs = as_after ins g2 ex in
    let within : n < length as' = omega (arith, place, size, less) in
    let x = carried ins old (get_or as' n 0) in
    let same_x : carried ins net (get_or as' n 0) ≡ carried ins old (get_or as' n 0) = g1.kept ins e (get_or as' n 0) (wa n 0 within) in
    let here : w - (i + 1) ≡ n = omega (arith, place, size) in
    let after : n + 1 ≡ w - i = omega (arith, place, size, less) in
    let top : word ins old (drop (w - (i + 1)) as') ≡ bit (carried ins old (get_or as' n 0)) + 2 * word ins old (drop (w - i) as') =
    ap (λ (m : ℕ). word ins old (drop m as')) here ∙ next_bit ins old as' n within ∙ ap (λ (m : ℕ). bit (carried ins old (get_or as' n 0)) + 2 * word ins old (drop m as')) after in
    let short : length (drop n as') ≤ w = omega (arith, length_drop n as', size) in
    let low : word ins old (drop n as') < 2 ^ w = omega (arith, word-below ins old (drop n as'), larger_power (length (drop n as')) w short) in
    let lt : bit (carried ins old (get_or as' n 0)) + 2 * word ins old (drop (w - i) as') < 2 ^ w =
    subst (λ (m : ℕ). m < 2 ^ w) (next_bit ins old as' n within ∙ ap (λ (m : ℕ). bit (carried ins old (get_or as' n 0)) + 2 * word ins old (drop m as')) after) low in
    let ld : word ins old bs < 2 ^ w = subst (λ (m : ℕ). word ins old bs < 2 ^ m) lb (word-below ins old bs) in
    let t : carried ins new s ≡ nat_le (word ins old bs) (bit (carried ins old (get_or as' n 0)) + 2 * word ins net rs) =
    goes ins e2
    ∙ ap (λ (m : ℕ). nat_le m (bit (carried ins net (get_or as' n 0)) + 2 * word ins net rs)) (divisor ins e)
    ∙ ap (λ (b : Bool). nat_le (word ins old bs) (bit b + 2 * word ins net rs)) same_x in
    let r : word ins new rs' ≡ restored (word ins old bs) (bit (carried ins old (get_or as' n 0)) + 2 * word ins net rs) % 2 ^ w =
    rest ins e2
    ∙ ap (λ (m : ℕ). restored m (bit (carried ins net (get_or as' n 0)) + 2 * word ins net rs) % 2 ^ length rs) (divisor ins e)
    ∙ ap (λ (b : Bool). restored (word ins old bs) (bit b + 2 * word ins net rs) % 2 ^ length rs) same_x
    ∙ ap (λ (m : ℕ). restored (word ins old bs) (bit (carried ins old (get_or as' n 0)) + 2 * word ins net rs) % 2 ^ m) lr in
    let q : word ins new (reverse (ds ++ s ∷ [])) ≡ bit (carried ins new s) + 2 * word ins net (reverse ds) =
    digits_push ins new ds s ∙ ap (λ (m : ℕ). bit (carried ins new s) + 2 * m) (same_word ins (reverse ds) g2 ex (wires_reversed net ds wd)) in
    subst (λ (m : ℕ). Divides (word ins old bs) (i + 1) m (word ins new (reverse (ds ++ s ∷ []))) (word ins new rs')) (sym top)
    (subst (λ (m : ℕ). Divides (word ins old bs) (i + 1) (bit (carried ins old (get_or as' n 0)) + 2 * word ins old (drop (w - i) as')) m (word ins new rs')) (sym q)
    (step_divides (word ins old bs) i (word ins old (drop (w - i) as')) (word ins net (reverse ds)) (word ins net rs) (2 ^ w) (word ins new rs') (carried ins old (get_or as' n 0)) (carried ins new s)
    (law ins e) ld lt t r))

pub divide_init : (d top q r : ℕ) → top ≡ 0 → q ≡ 0 → r ≡ 0 → Divides d 0 top q r
divide_init d top q r t n z = record {
  sum = (let p : q * d ≡ 0 * d = ap (λ (m : ℕ). m * d) n in omega (arith, p, t, z));
  below = λ some. omega (arith, some, z);
  none = λ e. omega (arith, n, pow-zero 2);
}

pub nothing_yet : (ins : List Bool) (net : Net) (ws : List ℕ) (k : ℕ) → k ≡ length ws → word ins net (drop k ws) ≡ 0
nothing_yet ins net ws k h =
    word-drop ins net k ws (omega (arith, h)) ∙ small_quotient (word ins net ws) (2 ^ k) (subst (λ (n : ℕ). word ins net ws < 2 ^ n) (sym h) (word-below ins net ws))

pub divide_end : (d top q r i w a : ℕ) → Divides d i top q r → i ≡ w → top ≡ a → (q ≡ bvudiv w a d) × (r ≡ bvurem w a d)
divide_end d top q r i w a h e t =
    let whole : Divides d w a q r = subst (λ (n : ℕ). Divides d n a q r) e (subst (λ (n : ℕ). Divides d i n q r) t h) in
    (quotient_is w a d q r whole, remainder_is w a d q r whole)

pub front_wires : (net : Net) (x : ℕ) (rs : List ℕ) → IsWire net x → AreWires net rs → AreWires net (x ∷ rs)
front_wires net x rs h k = All-from_recursion (IsWire net) (x ∷ rs) (h, recursion_from_All (IsWire net) rs k)

pub word_reversed : (net : Net) (w : ℕ) (ws : List ℕ) → IsWord net w ws → IsWord net w (reverse ws)
word_reversed net w ws h = record { width = length-reverse ws ∙ h.width; there = wires_reversed net ws h.there }

pub rows_and_columns : (w : ℕ) → (5 * w + 5) * w ≡ 5 * (w * w) + 5 * w
rows_and_columns w = grind arith
