-- The steps of barrels and of the multiplication.
use Rattle.std.proofs.Common.{◌≡◌, ℕ, suc, ◌+◌, ◌*◌, ◌%◌, ◌^◌, ◌<◌, ◌≤◌, Bool, true, false, List, length, get_or, take, refl, ap, sym, ◌∙◌, arith, if◌then◌else◌}
use Rattle.std.specs.Prelude.{nat_lt, min}
use Rattle.std.proofs.lemmas.Bool.Decides.{nat_tests}
use Rattle.std.proofs.lemmas.Nat.{pow_pos}
use Rattle.std.proofs.Math.Nat.{add-mod-mod, mod-add-mod, mod-mod, mod-eq_of_lt, pow-zero, pow-succ', div-one}
use Rattle.hy_val.specs.Bits.{is_negative, bvnot, bvshl, bvlshr, bvashr}
use Rattle.gate_net.specs.declared.net.Net.{Net}
use Rattle.bit_blast.specs.Words.{bit, carried, word, IsWire, AreWires, IsWord, Grows, Means}
use Rattle.bit_blast.specs.Moves.{moved, shifted}
use Rattle.bit_blast.specs.declared.layout.Direction.{Direction}
use Rattle.bit_blast.specs.declared.layout.Direction.TheVariants.{Left, Right}
use Rattle.bit_blast.proofs.Growing.{grows_then, same_word, as_before, as_after, word_more, word_below}
use Rattle.bit_blast.proofs.Numbers.{sum_end}
use Rattle.bit_blast.proofs.Moving.{word_moved, shifted-add, shifted_capped, all_gone, larger_power}

-- ---- barrels

barrel_table : (d : Direction) (w a n q far out : ℕ) (b : Bool) → out ≡ shifted d w a n → far ≡ shifted d w out q → (if b then far else out) ≡ shifted d w a (n + q * bit b)
barrel_table d w a n q far out true h k =
    let all : n + q ≡ n + q * bit true = omega arith in
    k ∙ ap (λ (m : ℕ). shifted d w m q) h ∙ shifted-add d w a n q ∙ ap (shifted d w a) all
barrel_table d w a n q far out false h k =
    let none : n ≡ n + q * bit false = omega arith in
    h ∙ ap (shifted d w a) none

pub barrel_law : (old net new : Net) (d : Direction) (i j k w by off : ℕ) (as' bs outs fars out' : List ℕ)
    → AreWires old bs → i < length bs → Grows old net j → Grows net new k → IsWord net w outs → by ≡ min (2 ^ i) w → fars ≡ moved d by off outs
    → ((ins : List Bool) → length ins ≡ old.inputs → carried ins net off ≡ false)
    → Means new out' (λ ins. if carried ins net (get_or bs i 0) then word ins net fars else word ins net outs)
    → ((ins : List Bool) → length ins ≡ old.inputs → word ins net outs ≡ shifted d w (word ins old as') (word ins old (take i bs)))
    → (ins : List Bool) → length ins ≡ old.inputs → word ins new out' ≡ shifted d w (word ins old as') (word ins old (take (i + 1) bs))
barrel_law old net new d i j k w by off as' bs outs fars out' wb less g1 g2 wo is_by is_far none chosen law ins e =
    let x = get_or bs i 0 in
    let within : by ≤ length outs = grind (arith, is_by, wo.width) in
    let far : word ins net fars ≡ shifted d w (word ins net outs) (2 ^ i) =
    ap (word ins net) is_far
    ∙ word_moved ins net d by off outs within (none ins e)
    ∙ ap (λ (n : ℕ). shifted d n (word ins net outs) by) wo.width
    ∙ ap (shifted d w (word ins net outs)) is_by
    ∙ shifted_capped d w (word ins net outs) (2 ^ i) (word_below ins outs wo) in
    chosen ins (as_after ins g2 (as_after ins g1 e))
    ∙ ap (λ (b : Bool). if b then word ins net fars else word ins net outs) (g1.kept ins e (get_or bs i 0) (wb i 0 less))
    ∙ barrel_table d w (word ins old as') (word ins old (take i bs)) (2 ^ i) (word ins net fars) (word ins net outs) (carried ins old (get_or bs i 0)) (law ins e) far
    ∙ ap (shifted d w (word ins old as')) (sym (word_more ins old bs i 0 less))

by_test : (d : Direction) (w a b : ℕ) (t : Bool) → nat_lt b w ≡ t → a < 2 ^ w → shifted d w a b ≡ (if t then shifted d w a b else 0)
by_test d w a b true h l = refl
by_test d w a b false h l = all_gone d w a b l (grind (arith, nat_tests, h))

pub shl_end : (w a b : ℕ) → a < 2 ^ w → shifted Left w a b ≡ bvshl w a b
shl_end w a b l = by_test Left w a b (nat_lt b w) refl l

pub shr_end : (w a b : ℕ) → a < 2 ^ w → shifted Right w a b ≡ bvlshr w a b
shr_end w a b l = by_test Right w a b (nat_lt b w) refl l

pub ashr_by : (w a b : ℕ) (t : Bool) → is_negative w a ≡ t
    → (if t then bvnot w (bvlshr w (if t then bvnot w a else a) b) else bvlshr w (if t then bvnot w a else a) b) ≡ bvashr w a b
ashr_by w a b t h = ap (λ (s : Bool). if s then bvnot w (bvlshr w (if s then bvnot w a else a) b) else bvlshr w (if s then bvnot w a else a) b) (sym h) ∙ same (is_negative w a)
  where
    same : (s : Bool) → (if s then bvnot w (bvlshr w (if s then bvnot w a else a) b) else bvlshr w (if s then bvnot w a else a) b) ≡ (if s then bvnot w (bvlshr w (bvnot w a) b) else bvlshr w a b)
    same true = refl
    same false = refl

pub ashr_law : (n0 n1 n2 n3 : Net) (as' bs ps qs out : List ℕ) (s w j k l : ℕ) → Grows n0 n1 j → Grows n1 n2 k → Grows n2 n3 l → AreWires n0 bs → IsWire n0 s → w ≡ length as'
    → ((ins : List Bool) → length ins ≡ n0.inputs → is_negative w (word ins n0 as') ≡ carried ins n0 s)
    → length ps ≡ w → length qs ≡ w
    → Means n1 ps (λ ins. if carried ins n0 s then bvnot (length as') (word ins n0 as') else word ins n0 as')
    → Means n2 qs (λ ins. bvlshr (length ps) (word ins n1 ps) (word ins n1 bs))
    → Means n3 out (λ ins. if carried ins n2 s then bvnot (length qs) (word ins n2 qs) else word ins n2 qs)
    → Means n3 out (λ ins. bvashr (length as') (word ins n0 as') (word ins n0 bs))
ashr_law n0 n1 n2 n3 as' bs ps qs out s w j k l g1 g2 g3 wb ws size sign lp lq law1 law2 law3 ins e3 =
    let e2 : length ins ≡ n2.inputs = as_before ins g3 e3 in
    let e1 : length ins ≡ n1.inputs = as_before ins g2 e2 in
    let e0 : length ins ≡ n0.inputs = as_before ins g1 e1 in
    let g02 : Grows n0 n2 (j + k) = grows_then g1 g2 (omega arith) in
    let t = carried ins n0 s in
    let a = word ins n0 as' in
    let b = word ins n0 bs in
    let first : word ins n1 ps ≡ (if carried ins n0 s then bvnot w (word ins n0 as') else word ins n0 as') =
    law1 ins e1 ∙ ap (λ (n : ℕ). if carried ins n0 s then bvnot n (word ins n0 as') else word ins n0 as') (sym size) in
    let second : word ins n2 qs ≡ bvlshr w (if carried ins n0 s then bvnot w (word ins n0 as') else word ins n0 as') (word ins n0 bs) =
    law2 ins e2
    ∙ ap (λ (n : ℕ). bvlshr n (word ins n1 ps) (word ins n1 bs)) lp
    ∙ ap (λ (n : ℕ). bvlshr w n (word ins n1 bs)) first
    ∙ ap (λ (n : ℕ). bvlshr w (if carried ins n0 s then bvnot w (word ins n0 as') else word ins n0 as') n) (same_word ins bs g1 e0 wb) in
    law3 ins e3
    ∙ ap (λ (c : Bool). if c then bvnot (length qs) (word ins n2 qs) else word ins n2 qs) (g02.kept ins e0 s ws)
    ∙ ap (λ (n : ℕ). if carried ins n0 s then bvnot n (word ins n2 qs) else word ins n2 qs) lq
    ∙ ap (λ (n : ℕ). if carried ins n0 s then bvnot w n else n) second
    ∙ ashr_by w (word ins n0 as') (word ins n0 bs) (carried ins n0 s) (sign ins e0)
    ∙ ap (λ (n : ℕ). bvashr n (word ins n0 as') (word ins n0 bs)) size

-- ---- products

mul_table : (p a n q : ℕ) (b : Bool) → (a * n % p + (if b then a * q % p else 0)) % p ≡ a * (n + q * bit b) % p
mul_table p a n q true =
    let whole : a * n + a * q ≡ a * (n + q * bit true) = grind arith in
    add-mod-mod (a * n % p) (a * q) p ∙ mod-add-mod (a * n) p (a * q) ∙ ap (λ (m : ℕ). m % p) whole
mul_table p a n q false =
    let plain : a * n % p + 0 ≡ a * n % p = omega arith in
    let none : a * n ≡ a * (n + q * bit false) = grind arith in
    ap (λ (m : ℕ). m % p) plain ∙ mod-mod (a * n) p ∙ ap (λ (m : ℕ). m % p) none

pub mul_law : (old net n1 n2 : Net) (i j k l w off c : ℕ) (as' bs outs fars parts sums os : List ℕ)
    → AreWires old as' → AreWires old bs → i < length bs → w ≡ length as' → i ≤ w → Grows old net j → Grows net n1 k → Grows n1 n2 l → IsWord net w outs → fars ≡ moved Left i off as'
    → os ≡ outs → IsWire net off → IsWord n2 w sums
    → ((ins : List Bool) → length ins ≡ old.inputs → carried ins net off ≡ false)
    → Means n1 parts (λ ins. if carried ins net (get_or bs i 0) then word ins net fars else 0)
    → ((ins : List Bool) → length ins ≡ n1.inputs → word ins n2 sums + 2 ^ length os * bit (carried ins n2 c) ≡ word ins n1 os + word ins n1 parts + bit (carried ins n1 off))
    → ((ins : List Bool) → length ins ≡ old.inputs → word ins net outs ≡ word ins old as' * word ins old (take i bs) % 2 ^ w)
    → (ins : List Bool) → length ins ≡ old.inputs → word ins n2 sums ≡ word ins old as' * word ins old (take (i + 1) bs) % 2 ^ w
mul_law old net n1 n2 i j k l w off c as' bs outs fars parts sums os wa wb less size le g1 g2 g3 wo is_far is_os woff wsums none masked exact law ins e =
    let ex : length ins ≡ net.inputs = as_after ins g1 e in
    let e1 : length ins ≡ n1.inputs = as_after ins g2 ex in
    let a = word ins old as' in
    let n = word ins old (take i bs) in
    let x = carried ins old (get_or bs i 0) in
    let far : word ins net fars ≡ word ins old as' * 2 ^ i % 2 ^ w =
    ap (word ins net) is_far
    ∙ word_moved ins net Left i off as' (omega (arith, size, le)) (none ins e)
    ∙ ap (λ (m : ℕ). word ins net as' * 2 ^ i % 2 ^ m) (sym size)
    ∙ ap (λ (m : ℕ). m * 2 ^ i % 2 ^ w) (same_word ins as' g1 e wa) in
    let part : word ins n1 parts ≡ (if carried ins old (get_or bs i 0) then word ins old as' * 2 ^ i % 2 ^ w else 0) =
    masked ins e1
    ∙ ap (λ (b : Bool). if b then word ins net fars else 0) (g1.kept ins e (get_or bs i 0) (wb i 0 less))
    ∙ ap (λ (m : ℕ). if carried ins old (get_or bs i 0) then m else 0) far in
    let front : word ins n1 os ≡ word ins old as' * word ins old (take i bs) % 2 ^ w =
    ap (word ins n1) is_os ∙ same_word ins outs g2 ex wo.there ∙ law ins e in
    let off1 : carried ins n1 off ≡ false = g2.kept ins ex off woff ∙ none ins e in
    let width : length os ≡ w = ap length is_os ∙ wo.width in
    let both = word ins old as' * word ins old (take i bs) % 2 ^ w + (if carried ins old (get_or bs i 0) then word ins old as' * 2 ^ i % 2 ^ w else 0) in
    let zero : word ins old as' * word ins old (take i bs) % 2 ^ w + (if carried ins old (get_or bs i 0) then word ins old as' * 2 ^ i % 2 ^ w else 0) + bit false
    ≡ word ins old as' * word ins old (take i bs) % 2 ^ w + (if carried ins old (get_or bs i 0) then word ins old as' * 2 ^ i % 2 ^ w else 0) = omega arith in
    sum_end (2 ^ w) (word ins n2 sums) (bit (carried ins n2 c)) (word ins old as' * word ins old (take i bs) % 2 ^ w + (if carried ins old (get_or bs i 0) then word ins old as' * 2 ^ i % 2 ^ w else 0))
    (word_below ins sums wsums)
    (ap (λ (m : ℕ). word ins n2 sums + 2 ^ m * bit (carried ins n2 c)) (sym width)
    ∙ exact ins e1
    ∙ ap (λ (m : ℕ). m + word ins n1 parts + bit (carried ins n1 off)) front
    ∙ ap (λ (m : ℕ). word ins old as' * word ins old (take i bs) % 2 ^ w + m + bit (carried ins n1 off)) part
    ∙ ap (λ (b : Bool). word ins old as' * word ins old (take i bs) % 2 ^ w + (if carried ins old (get_or bs i 0) then word ins old as' * 2 ^ i % 2 ^ w else 0) + bit b) off1
    ∙ zero)
    ∙ mul_table (2 ^ w) (word ins old as') (word ins old (take i bs)) (2 ^ i) (carried ins old (get_or bs i 0))
    ∙ ap (λ (m : ℕ). word ins old as' * m % 2 ^ w) (sym (word_more ins old bs i 0 less))

pub shifted_none : (d : Direction) (w a : ℕ) → a < 2 ^ w → a ≡ shifted d w a 0
shifted_none Left w a l = let one : a * 2 ^ 0 ≡ a = omega (arith, pow-zero 2) in sym (ap (λ (m : ℕ). m % 2 ^ w) one ∙ mod-eq_of_lt l)
shifted_none Right w a l = sym (div-one a)

pub zero_product : (a w : ℕ) → a * 0 % 2 ^ w ≡ 0
zero_product a w = let none : a * 0 ≡ 0 = omega arith in ap (λ (m : ℕ). m % 2 ^ w) none ∙ mod-eq_of_lt (pow_pos w)

pub mul_next : (w i : ℕ) → w * (i + 1) ≡ w * i + w
mul_next w i = grind arith

pub four_squares : (w : ℕ) → 4 * w * w ≡ 4 * (w * w)
four_squares w = grind arith

pub power_fits : (k : ℕ) → k < 64 → 1 * 2 ^ k % 2 ^ 64 ≡ 2 ^ k
power_fits k h =
    let one : 1 * 2 ^ k ≡ 2 ^ k = omega arith in
    let more : 2 ^ suc k ≤ 2 ^ 64 = larger_power (suc k) 64 (omega (arith, h)) in
    let less : 2 ^ k < 2 ^ 64 = omega (arith, more, pow-succ' 2 k, pow_pos k) in
    ap (λ (m : ℕ). m % 2 ^ 64) one ∙ mod-eq_of_lt less
