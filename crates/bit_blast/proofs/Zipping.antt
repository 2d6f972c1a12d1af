-- One more gate on two bits.
use Rattle.std.proofs.Common.{◌≡◌, ℕ, ◌+◌, ◌<◌, Bool, List, [], ◌∷◌, ◌++◌, length, get_or, take, refl, ap, sym, ◌∙◌, arith, if◌then◌else◌}
use Rattle.std.proofs.lemmas.List.{length-take-le}
use Rattle.gate_net.specs.Net.{gate_value, values}
use Rattle.gate_net.specs.declared.net.Net.{Net}
use Rattle.gate_net.specs.declared.net.NetGate.{NetGate}
use Rattle.bit_blast.specs.declared.word.Pairing.{Pairing}
use Rattle.bit_blast.specs.declared.word.Pairing.TheVariants as pairing
use Rattle.bit_blast.specs.Words.{carried, bits, word, AreWires, IsWord, Grows, Says}
use Rattle.bit_blast.specs.Pairings.{pair_gate, pair_value, IsPairing, zipped}
use Rattle.bit_blast.proofs.Growing.{bits_stay, bits-push, bits_more, length-bits}
use Rattle.bit_blast.proofs.Numbers.{zipped-push}

pair_law : (ins : List Bool) (net : Net) (op : Pairing) (a b : ℕ) → gate_value (values ins net.gates.items) (pair_gate op a b) ≡ pair_value ins net op (carried ins net a) (carried ins net b)
pair_law ins net pairing.And a b = refl
pair_law ins net pairing.Or a b = refl
pair_law ins net pairing.Xor a b = refl
pair_law ins net (pairing.Mux p) a b = refl

pair_same : (old net : Net) (j : ℕ) (ins : List Bool) (op : Pairing) (a b : Bool) → Grows old net j → length ins ≡ old.inputs → IsPairing old op
    → pair_value ins net op a b ≡ pair_value ins old op a b
pair_same old net j ins pairing.And a b g e h = refl
pair_same old net j ins pairing.Or a b g e h = refl
pair_same old net j ins pairing.Xor a b g e h = refl
pair_same old net j ins (pairing.Mux p) a b g e h = ap (λ (x : Bool). if x then a else b) (g.kept ins e p h)

pub zip_law : (old net new : Net) (i : ℕ) (op : Pairing) (as' bs out : List ℕ) (s : ℕ) (g : NetGate)
    → IsPairing old op → length bs ≡ length as' → AreWires old as' → AreWires old bs → i < length as'
    → Grows old net i → IsWord net i out → Grows net new 1 → g ≡ pair_gate op (get_or as' i 0) (get_or bs i 0)
    → Says new s (λ ins. gate_value (values ins net.gates.items) g)
    → ((ins : List Bool) → length ins ≡ old.inputs → bits ins net out ≡ zipped (pair_value ins old op) (bits ins old (take i as')) (bits ins old (take i bs)))
    → (ins : List Bool) → length ins ≡ old.inputs → bits ins new (out ++ s ∷ []) ≡ zipped (pair_value ins old op) (bits ins old (take (i + 1) as')) (bits ins old (take (i + 1) bs))
zip_law old net new i op as' bs out s g ok same wa wb less old_net word net_new is says law ins e =
    let x = get_or as' i 0 in
    let y = get_or bs i 0 in
    let f : Bool → Bool → Bool = pair_value ins old op in
    let A = bits ins old (take i as') in
    let B = bits ins old (take i bs) in
    let less' : i < length bs = omega (arith, same, less) in
    let ex : length ins ≡ net.inputs = e ∙ sym old_net.inputs in
    let len : length (bits ins old (take i as')) ≡ length (bits ins old (take i bs)) =
    omega (arith, length-bits ins old (take i as'), length-bits ins old (take i bs), length-take-le i as' (omega (arith, less)), length-take-le i bs (omega (arith, less'))) in
    let there : carried ins new s ≡ f (carried ins old x) (carried ins old y) =
    says ins (ex ∙ sym net_new.inputs)
    ∙ ap (gate_value (values ins net.gates.items)) is
    ∙ pair_law ins net op x y
    ∙ pair_same old net i ins op (carried ins net x) (carried ins net y) old_net e ok
    ∙ ap (λ (v : Bool). f v (carried ins net y)) (old_net.kept ins e x (wa i 0 less))
    ∙ ap (λ (v : Bool). f (carried ins old x) v) (old_net.kept ins e y (wb i 0 less')) in
    bits-push ins new out s
    ∙ ap (λ (r : List Bool). r ++ carried ins new s ∷ []) (bits_stay ins out net_new ex word.there ∙ law ins e)
    ∙ ap (λ (b : Bool). zipped f A B ++ b ∷ []) there
    ∙ sym (zipped-push f A B (carried ins old x) (carried ins old y) len)
    ∙ ap (λ (r : List Bool). zipped f r (B ++ carried ins old y ∷ [])) (sym (bits_more ins old as' i 0 less))
    ∙ ap (λ (r : List Bool). zipped f (bits ins old (take (i + 1) as')) r) (sym (bits_more ins old bs i 0 less'))
