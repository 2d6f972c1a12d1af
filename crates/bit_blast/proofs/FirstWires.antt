-- Words of inputs.
use Rattle.std.proofs.Common.{◌≡◌, ℕ, zero, suc, ◌+◌, ◌<◌, Bool, false, List, [], ◌∷◌, ◌++◌, length, take, drop, refl, ap, sym, ◌∙◌, arith}
use Rattle.std.proofs.lemmas.List.{take_more}
use Rattle.gate_net.specs.Net.{wire}
use Rattle.gate_net.specs.declared.net.Net.{Net}
use Rattle.gate_net.proofs.Wires.{values_front}
use Rattle.bit_blast.specs.Words.{carried, bits}
use Rattle.bit_blast.proofs.Growing.{bits-push}

wire-drop : (n : ℕ) (vs : List Bool) (i : ℕ) → wire (drop n vs) i ≡ wire vs (n + i)
wire-drop zero vs i = let e : i ≡ 0 + i = omega arith in ap (wire vs) e
wire-drop (suc n) [] i = refl
wire-drop (suc n) (v ∷ vs) i = let e : suc (n + i) ≡ suc n + i = omega arith in wire-drop n vs i ∙ ap (wire (v ∷ vs)) e

left_over : (n : ℕ) (vs : List Bool) (i : ℕ) → n + i < length vs → i < length (drop n vs)
left_over zero vs i h = omega (arith, h)
left_over (suc n) [] i h = absurd (omega (arith, h))
left_over (suc n) (v ∷ vs) i h = left_over n vs i (omega (arith, h))

-- one more input
pub input_law : (ins : List Bool) (net : Net) (first i : ℕ) (out : List ℕ) → first + i < length ins → bits ins net out ≡ take i (drop first ins)
    → bits ins net (out ++ (first + i) ∷ []) ≡ take (i + 1) (drop first ins)
input_law ins net first i out h law =
    bits-push ins net out (first + i)
    ∙ ap (λ (l : List Bool). l ++ carried ins net (first + i) ∷ []) law
    ∙ ap (λ (b : Bool). take i (drop first ins) ++ b ∷ []) (values_front ins net.gates.items (first + i) h ∙ sym (wire-drop first ins i))
    ∙ sym (take_more (drop first ins) i false (left_over first ins i h))
