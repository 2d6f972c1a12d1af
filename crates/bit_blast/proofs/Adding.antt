-- Chains of full adders.
use Rattle.std.proofs.Common.{◌≡◌, ℕ, ◌+◌, ◌-◌, ◌*◌, ◌%◌, ◌^◌, ◌<◌, Bool, true, false, List, [], ◌∷◌, ◌++◌, length, get_or, take, ap, sym, ◌∙◌, subst, arith, add-one, take_all, if◌then◌else◌}
use Rattle.std.specs.Prelude.{nat_le, replicate}
use Rattle.std.proofs.Math.Nat.{pow-succ'}
use Rattle.hy_val.specs.Bits.{bvadd, bvsub, bvneg, bvnot}
use Rattle.gate_net.specs.Net.{xor, gate_value, values}
use Rattle.gate_net.specs.declared.net.Net.{Net}
use Rattle.gate_net.specs.declared.net.NetGate.TheVariants as gate
use Rattle.bit_blast.specs.Words.{bit, number, carried, word, IsWire, AreWires, IsWord, Grows, Says, Means}
use Rattle.bit_blast.proofs.Growing.{grows_then, wire_stays, same_word, word-push, word_more, word-below, word_below, as_before, as_after, length-repeated, bits-repeated}
use Rattle.bit_blast.proofs.Numbers.{full_table, sum_step, sum_end, difference_end, number-zeros}

pub full_law : (n0 n1 n2 n3 : Net) (a b c d s m : ℕ) → Grows n0 n1 1 → Grows n1 n2 1 → Grows n2 n3 1 → IsWire n0 a → IsWire n0 b → IsWire n0 c → IsWire n1 d → IsWire n2 s
    → Says n1 d (λ ins. gate_value (values ins n0.gates.items) (gate.Xor a b))
    → Says n2 s (λ ins. gate_value (values ins n1.gates.items) (gate.Xor d c))
    → Says n3 m (λ ins. gate_value (values ins n2.gates.items) (gate.Mux d c a))
    → (ins : List Bool) → length ins ≡ n0.inputs → bit (carried ins n3 s) + 2 * bit (carried ins n3 m) ≡ bit (carried ins n0 a) + bit (carried ins n0 b) + bit (carried ins n0 c)
full_law n0 n1 n2 n3 a b c d s m g1 g2 g3 ha hb hc hd hs sd ss sm ins e0 =
    let e1 : length ins ≡ n1.inputs = e0 ∙ sym g1.inputs in
    let e2 : length ins ≡ n2.inputs = e1 ∙ sym g2.inputs in
    let e3 : length ins ≡ n3.inputs = e2 ∙ sym g3.inputs in
    let x = carried ins n0 a in
    let y = carried ins n0 b in
    let z = carried ins n0 c in
    let a1 : carried ins n1 a ≡ x = g1.kept ins e0 a ha in
    let c1 : carried ins n1 c ≡ z = g1.kept ins e0 c hc in
    let a2 : carried ins n2 a ≡ x = g2.kept ins e1 a (wire_stays a g1 ha) ∙ a1 in
    let c2 : carried ins n2 c ≡ z = g2.kept ins e1 c (wire_stays c g1 hc) ∙ c1 in
    let d1 : carried ins n1 d ≡ xor x y = sd ins e1 in
    let d2 : carried ins n2 d ≡ xor x y = g2.kept ins e1 d hd ∙ d1 in
    let sum : carried ins n3 s ≡ xor (xor x y) z =
    g3.kept ins e2 s hs ∙ ss ins e2 ∙ ap (λ (p : Bool). xor p (carried ins n1 c)) d1 ∙ ap (λ (p : Bool). xor (xor x y) p) c1 in
    let next : carried ins n3 m ≡ (if xor x y then z else x) =
    sm ins e3
    ∙ ap (λ (p : Bool). if p then carried ins n2 c else carried ins n2 a) d2
    ∙ ap (λ (p : Bool). if xor x y then p else carried ins n2 a) c2
    ∙ ap (λ (p : Bool). if xor x y then z else p) a2 in
    ap (λ (p : Bool). bit p + 2 * bit (carried ins n3 m)) sum ∙ ap (λ (p : Bool). bit (xor (xor x y) z) + 2 * bit p) next ∙ full_table x y z

pub add_law : (old net new : Net) (i j k : ℕ) (as' bs out : List ℕ) (carry next s c' : ℕ)
    → length bs ≡ length as' → AreWires old as' → AreWires old bs → i < length as'
    → Grows old net j → IsWord net i out → Grows net new k
    → ((ins : List Bool) → length ins ≡ net.inputs → bit (carried ins new s) + 2 * bit (carried ins new c') ≡ bit (carried ins net (get_or as' i 0)) + bit (carried ins net (get_or bs i 0)) + bit (carried ins net next))
    → ((ins : List Bool) → length ins ≡ old.inputs → word ins net out + 2 ^ i * bit (carried ins net next) ≡ word ins old (take i as') + word ins old (take i bs) + bit (carried ins old carry))
    → (ins : List Bool) → length ins ≡ old.inputs → word ins new (out ++ s ∷ []) + 2 ^ (i + 1) * bit (carried ins new c') ≡ word ins old (take (i + 1) as') + word ins old (take (i + 1) bs) + bit (carried ins old carry)
add_law old net new i j k as' bs out carry next s c' same wa wb less old_net there net_new full law ins e =
    let x = get_or as' i 0 in
    let y = get_or bs i 0 in
    let less' : i < length bs = omega (arith, same, less) in
    let ex : length ins ≡ net.inputs = as_after ins old_net e in
    let p : 2 ^ (i + 1) ≡ 2 * 2 ^ i = ap (λ (n : ℕ). 2 ^ n) (add-one i) ∙ pow-succ' 2 i in
    let q : word ins new (out ++ s ∷ []) ≡ word ins net out + 2 ^ i * bit (carried ins new s) =
    word-push ins new out s ∙ ap (λ (n : ℕ). word ins new out + 2 ^ n * bit (carried ins new s)) there.width
    ∙ ap (λ (n : ℕ). n + 2 ^ i * bit (carried ins new s)) (same_word ins out net_new ex there.there) in
    let here : bit (carried ins new s) + 2 * bit (carried ins new c') ≡ bit (carried ins old x) + bit (carried ins old y) + bit (carried ins net next) =
    full ins ex
    ∙ ap (λ (v : Bool). bit v + bit (carried ins net y) + bit (carried ins net next)) (old_net.kept ins e x (wa i 0 less))
    ∙ ap (λ (v : Bool). bit (carried ins old x) + bit v + bit (carried ins net next)) (old_net.kept ins e y (wb i 0 less')) in
    ap (λ (n : ℕ). n + 2 ^ (i + 1) * bit (carried ins new c')) q
    ∙ ap (λ (n : ℕ). word ins net out + 2 ^ i * bit (carried ins new s) + n * bit (carried ins new c')) p
    ∙ sum_step (2 ^ i) (word ins net out) (bit (carried ins net next)) (word ins old (take i as')) (word ins old (take i bs)) (bit (carried ins old carry))
    (bit (carried ins new s)) (bit (carried ins new c')) (bit (carried ins old x)) (bit (carried ins old y)) (law ins e) here
    ∙ ap (λ (n : ℕ). n + (word ins old (take i bs) + 2 ^ i * bit (carried ins old y)) + bit (carried ins old carry)) (sym (word_more ins old as' i 0 less))
    ∙ ap (λ (n : ℕ). word ins old (take (i + 1) as') + n + bit (carried ins old carry)) (sym (word_more ins old bs i 0 less'))

pub whole_word : (ws : List ℕ) (i : ℕ) → i ≡ length ws → take i ws ≡ ws
whole_word ws i h = ap (λ (k : ℕ). take k ws) h ∙ take_all (length ws) ws (omega arith)

-- the sum without a carry in
pub added : (n0 n1 n2 : Net) (as' bs out : List ℕ) (off c j k : ℕ) → Grows n0 n1 j → Grows n1 n2 k → AreWires n0 as' → AreWires n0 bs → IsWord n2 (length as') out → Says n1 off (λ ins. false)
    → ((ins : List Bool) → length ins ≡ n1.inputs → word ins n2 out + 2 ^ length as' * bit (carried ins n2 c) ≡ word ins n1 as' + word ins n1 bs + bit (carried ins n1 off))
    → Means n2 out (λ ins. bvadd (length as') (word ins n0 as') (word ins n0 bs))
added n0 n1 n2 as' bs out off c j k g1 g2 wa wb there none exact ins e2 =
    let e1 : length ins ≡ n1.inputs = as_before ins g2 e2 in
    let e0 : length ins ≡ n0.inputs = as_before ins g1 e1 in
    let zero : word ins n0 as' + word ins n0 bs + bit false ≡ word ins n0 as' + word ins n0 bs = omega arith in
    sum_end (2 ^ length as') (word ins n2 out) (bit (carried ins n2 c)) (word ins n0 as' + word ins n0 bs) (word_below ins out there)
    (exact ins e1
    ∙ ap (λ (n : ℕ). n + word ins n1 bs + bit (carried ins n1 off)) (same_word ins as' g1 e0 wa)
    ∙ ap (λ (n : ℕ). word ins n0 as' + n + bit (carried ins n1 off)) (same_word ins bs g1 e0 wb)
    ∙ ap (λ (b : Bool). word ins n0 as' + word ins n0 bs + bit b) (none ins e1)
    ∙ zero)

-- the sum with the turned word and a carry in
pub differs : (n0 n1 n2 n3 : Net) (as' bs tb ts out : List ℕ) (on c j k l : ℕ) → Grows n0 n1 j → Grows n1 n2 k → Grows n2 n3 l → length bs ≡ length as' → AreWires n0 as' → AreWires n0 bs
    → IsWire n1 on → Says n1 on (λ ins. true) → Means n2 tb (λ ins. if carried ins n1 on then bvnot (length bs) (word ins n1 bs) else word ins n1 bs) → ts ≡ tb → IsWord n3 (length as') out
    → ((ins : List Bool) → length ins ≡ n2.inputs → word ins n3 out + 2 ^ length as' * bit (carried ins n3 c) ≡ word ins n2 as' + word ins n2 ts + bit (carried ins n2 on))
    → (ins : List Bool) → length ins ≡ n3.inputs → (word ins n3 out ≡ bvsub (length as') (word ins n0 as') (word ins n0 bs)) × (carried ins n3 c ≡ nat_le (word ins n0 bs) (word ins n0 as'))
differs n0 n1 n2 n3 as' bs tb ts out on c j k l g1 g2 g3 same wa wb won son turned is there exact ins e3 =
    let e2 : length ins ≡ n2.inputs = as_before ins g3 e3 in
    let e1 : length ins ≡ n1.inputs = as_before ins g2 e2 in
    let e0 : length ins ≡ n0.inputs = as_before ins g1 e1 in
    let g02 : Grows n0 n2 (j + k) = grows_then g1 g2 (omega arith) in
    let on2 : carried ins n2 on ≡ true = g2.kept ins e1 on won ∙ son ins e1 in
    let tb2 : word ins n2 ts ≡ 2 ^ length as' - 1 - word ins n0 bs =
    ap (word ins n2) is ∙ turned ins e2
    ∙ ap (λ (b : Bool). if b then bvnot (length bs) (word ins n1 bs) else word ins n1 bs) (son ins e1)
    ∙ ap (λ (n : ℕ). 2 ^ length bs - 1 - n) (same_word ins bs g1 e0 wb)
    ∙ ap (λ (n : ℕ). 2 ^ n - 1 - word ins n0 bs) same in
    let below_b : word ins n0 bs < 2 ^ length as' = subst (λ (n : ℕ). word ins n0 bs < 2 ^ n) same (word-below ins n0 bs) in
    difference_end (2 ^ length as') (word ins n0 as') (word ins n0 bs) (word ins n3 out) (carried ins n3 c) (word_below ins out there) (word-below ins n0 as') below_b
    (exact ins e2
    ∙ ap (λ (n : ℕ). n + word ins n2 ts + bit (carried ins n2 on)) (same_word ins as' g02 e0 wa)
    ∙ ap (λ (n : ℕ). word ins n0 as' + n + bit (carried ins n2 on)) tb2
    ∙ ap (λ (b : Bool). word ins n0 as' + (2 ^ length as' - 1 - word ins n0 bs) + bit b) on2)

-- the difference from 0
pub negates : (n0 n1 n2 : Net) (as' zs out : List ℕ) (n off j k : ℕ) → Grows n0 n1 j → Grows n1 n2 k → AreWires n0 as' → n ≡ length as' → zs ≡ replicate n off → Says n1 off (λ ins. false)
    → Means n2 out (λ ins. bvsub (length zs) (word ins n1 zs) (word ins n1 as')) → Means n2 out (λ ins. bvneg (length as') (word ins n0 as'))
negates n0 n1 n2 as' zs out n off j k g1 g2 wa len is none law ins e2 =
    let e1 : length ins ≡ n1.inputs = as_before ins g2 e2 in
    let e0 : length ins ≡ n0.inputs = as_before ins g1 e1 in
    let size : length zs ≡ length as' = ap length is ∙ length-repeated n off ∙ len in
    let nothing : word ins n1 zs ≡ 0 =
    ap (word ins n1) is ∙ ap number (bits-repeated ins n1 n off) ∙ ap (λ (b : Bool). number (replicate n b)) (none ins e1) ∙ number-zeros n in
    let plain : 0 + (2 ^ length as' - word ins n0 as') ≡ 2 ^ length as' - word ins n0 as' = omega arith in
    law ins e2
    ∙ ap (λ (m : ℕ). bvsub m (word ins n1 zs) (word ins n1 as')) size
    ∙ ap (λ (m : ℕ). bvsub (length as') m (word ins n1 as')) nothing
    ∙ ap (λ (m : ℕ). bvsub (length as') 0 m) (same_word ins as' g1 e0 wa)
    ∙ ap (λ (m : ℕ). m % 2 ^ length as') plain
