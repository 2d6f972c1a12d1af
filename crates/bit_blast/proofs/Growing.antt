-- Nets that grow, and the words on them.
use Rattle.std.proofs.Common.{◌≡◌, ℕ, zero, suc, ◌+◌, ◌*◌, ◌<◌, ◌≤◌, Bool, List, [], ◌∷◌, ◌++◌, length, get_or, take, refl, ap, sym, ◌∙◌, subst, arith, length-append}
use Rattle.std.specs.List.{AllByRecursion}
use Rattle.std.specs.Prelude.{replicate, ◌^◌}
use Rattle.std.proofs.lemmas.List.{take_more, length-take-le}
use Rattle.std.proofs.lemmas.List.Elements.{recursion_from_All, All-from_recursion, All-push}
use Rattle.gate_net.specs.declared.net.Net.{Net}
use Rattle.bit_blast.specs.Words.{bit, number, carried, bits, word, IsWire, AreWires, IsWord, Grows}
use Rattle.bit_blast.proofs.Numbers.{number-push, number-below}

pub grows_not : (a : Net) → Grows a a 0
grows_not a = record { inputs = refl; root = refl; more = omega arith; count = omega arith; kept = λ ins e k h. refl }

pub grows_then : {a b c : Net} {j k n : ℕ} → Grows a b j → Grows b c k → j + k ≤ n → Grows a c n
grows_then {a} {b} {c} g h le = record {
  inputs = h.inputs ∙ g.inputs;
  root = h.root ∙ g.root;
  more = omega (arith, g.more, h.more);
  count = omega (arith, g.count, h.count, le);
  kept = λ ins e k l. h.kept ins (e ∙ sym g.inputs) k (omega (arith, l, g.inputs, g.more)) ∙ g.kept ins e k l;
}

pub grows_within : {a b : Net} {j n : ℕ} → Grows a b j → j ≤ n → Grows a b n
grows_within g le = record { inputs = g.inputs; root = g.root; more = g.more; count = omega (arith, g.count, le); kept = g.kept }

-- old wires are wires
pub wire_stays : {a b : Net} {j : ℕ} (k : ℕ) → Grows a b j → IsWire a k → IsWire b k
wire_stays k g h = omega (arith, g.inputs, g.more, h)

wires-stay : (a b : Net) (j : ℕ) (ws : List ℕ) → Grows a b j → AllByRecursion (IsWire a) ws → AllByRecursion (IsWire b) ws
wires-stay a b j [] g h = tt
wires-stay a b j (w ∷ ws) g h = (wire_stays w g h.0, wires-stay a b j ws g h.1)

pub wires_stay : {a b : Net} {j : ℕ} (ws : List ℕ) → Grows a b j → AreWires a ws → AreWires b ws
wires_stay {a} {b} {j} ws g h = All-from_recursion (IsWire b) ws (wires-stay a b j ws g (recursion_from_All (IsWire a) ws h))

pub word_stays : {a b : Net} {j w : ℕ} (ws : List ℕ) → Grows a b j → IsWord a w ws → IsWord b w ws
word_stays ws g h = record { width = h.width; there = wires_stay ws g h.there }

bits-stay : (a b : Net) (j : ℕ) (ins : List Bool) (ws : List ℕ) → Grows a b j → length ins ≡ a.inputs → AllByRecursion (IsWire a) ws → bits ins b ws ≡ bits ins a ws
bits-stay a b j ins [] g e h = refl
bits-stay a b j ins (w ∷ ws) g e h =
    ap (λ (x : Bool). x ∷ bits ins b ws) (g.kept ins e w h.0) ∙ ap (λ (r : List Bool). carried ins a w ∷ r) (bits-stay a b j ins ws g e h.1)

-- and carry what they did
pub bits_stay : {a b : Net} {j : ℕ} (ins : List Bool) (ws : List ℕ) → Grows a b j → length ins ≡ a.inputs → AreWires a ws → bits ins b ws ≡ bits ins a ws
bits_stay {a} {b} {j} ins ws g e h = bits-stay a b j ins ws g e (recursion_from_All (IsWire a) ws h)

pub same_word : {a b : Net} {j : ℕ} (ins : List Bool) (ws : List ℕ) → Grows a b j → length ins ≡ a.inputs → AreWires a ws → word ins b ws ≡ word ins a ws
same_word ins ws g e h = ap number (bits_stay ins ws g e h)

pub bits-push : (ins : List Bool) (net : Net) (ws : List ℕ) (w : ℕ) → bits ins net (ws ++ w ∷ []) ≡ bits ins net ws ++ carried ins net w ∷ []
bits-push ins net [] w = refl
bits-push ins net (v ∷ ws) w = ap (λ (r : List Bool). carried ins net v ∷ r) (bits-push ins net ws w)

pub bits-append : (ins : List Bool) (net : Net) (vs ws : List ℕ) → bits ins net (vs ++ ws) ≡ bits ins net vs ++ bits ins net ws
bits-append ins net [] ws = refl
bits-append ins net (v ∷ vs) ws = ap (λ (r : List Bool). carried ins net v ∷ r) (bits-append ins net vs ws)

pub length-bits : (ins : List Bool) (net : Net) (ws : List ℕ) → length (bits ins net ws) ≡ length ws
length-bits ins net [] = refl
length-bits ins net (v ∷ ws) = ap suc (length-bits ins net ws)

-- one more wire of a word
pub bits_more : (ins : List Bool) (net : Net) (ws : List ℕ) (i d : ℕ) → i < length ws → bits ins net (take (i + 1) ws) ≡ bits ins net (take i ws) ++ carried ins net (get_or ws i d) ∷ []
bits_more ins net ws i d h = ap (bits ins net) (take_more ws i d h) ∙ bits-push ins net (take i ws) (get_or ws i d)

-- a word gets a new wire as the net grows
pub word_push : {a b : Net} {j w : ℕ} (ws : List ℕ) (k : ℕ) → Grows a b j → IsWord a w ws → IsWire b k → IsWord b (w + 1) (ws ++ k ∷ [])
word_push {a} {b} {j} {w} ws k g h l = record {
  width = omega (arith, length-append ws (k ∷ []), h.width);
  there = All-push (IsWire b) ws k (wires_stay ws g h.there) l;
}

wires-repeated : (net : Net) (n k : ℕ) → IsWire net k → AllByRecursion (IsWire net) (replicate n k)
wires-repeated net zero k h = tt
wires-repeated net (suc n) k h = (h, wires-repeated net n k h)

pub wires_repeated : (net : Net) (n k : ℕ) → IsWire net k → AreWires net (replicate n k)
wires_repeated net n k h = All-from_recursion (IsWire net) (replicate n k) (wires-repeated net n k h)

pub bits-repeated : (ins : List Bool) (net : Net) (n k : ℕ) → bits ins net (replicate n k) ≡ replicate n (carried ins net k)
bits-repeated ins net zero k = refl
bits-repeated ins net (suc n) k = ap (λ (r : List Bool). carried ins net k ∷ r) (bits-repeated ins net n k)

pub length-repeated : {A : Type 0} (n : ℕ) (x : A) → length (replicate n x) ≡ n
length-repeated zero x = refl
length-repeated (suc n) x = ap suc (length-repeated n x)

-- the number that a word carries
pub word-push : (ins : List Bool) (net : Net) (ws : List ℕ) (k : ℕ) → word ins net (ws ++ k ∷ []) ≡ word ins net ws + 2 ^ length ws * bit (carried ins net k)
word-push ins net ws k =
    ap number (bits-push ins net ws k) ∙ number-push (bits ins net ws) (carried ins net k)
    ∙ ap (λ (n : ℕ). word ins net ws + 2 ^ n * bit (carried ins net k)) (length-bits ins net ws)

pub word_more : (ins : List Bool) (net : Net) (ws : List ℕ) (i d : ℕ) → i < length ws → word ins net (take (i + 1) ws) ≡ word ins net (take i ws) + 2 ^ i * bit (carried ins net (get_or ws i d))
word_more ins net ws i d h =
    ap (word ins net) (take_more ws i d h) ∙ word-push ins net (take i ws) (get_or ws i d)
    ∙ ap (λ (n : ℕ). word ins net (take i ws) + 2 ^ n * bit (carried ins net (get_or ws i d))) (length-take-le i ws (omega (arith, h)))

pub word-below : (ins : List Bool) (net : Net) (ws : List ℕ) → word ins net ws < 2 ^ length ws
word-below ins net ws = subst (λ (n : ℕ). word ins net ws < 2 ^ n) (length-bits ins net ws) (number-below (bits ins net ws))

pub word_below : {net : Net} {w : ℕ} (ins : List Bool) (ws : List ℕ) → IsWord net w ws → word ins net ws < 2 ^ w
word_below {net} ins ws h = subst (λ (n : ℕ). word ins net ws < 2 ^ n) h.width (word-below ins net ws)

-- the net has as many inputs
pub as_before : {a b : Net} {j : ℕ} (ins : List Bool) → Grows a b j → length ins ≡ b.inputs → length ins ≡ a.inputs
as_before ins g e = e ∙ g.inputs

pub as_after : {a b : Net} {j : ℕ} (ins : List Bool) → Grows a b j → length ins ≡ a.inputs → length ins ≡ b.inputs
as_after ins g e = e ∙ sym g.inputs

-- words of the same width have as many bits
pub same_bits : (ins : List Bool) (net : Net) (vs ws : List ℕ) → length ws ≡ length vs → length (bits ins net vs) ≡ length (bits ins net ws)
same_bits ins net vs ws same = length-bits ins net vs ∙ sym same ∙ sym (length-bits ins net ws)
