-- Gates over one bit of each of two words.
use Rattle.std.specs.Prelude.{ℕ, Bool, ◌&&◌, if◌then◌else◌, List, [], ◌∷◌}
use Rattle.gate_net.specs.Net.{xor}
use Rattle.gate_net.specs.declared.net.Net.{Net}
use Rattle.gate_net.specs.declared.net.NetGate.{NetGate}
use Rattle.gate_net.specs.declared.net.NetGate.TheVariants as gate
use Rattle.bit_blast.specs.Words.{carried, IsWire}
use Rattle.bit_blast.specs.declared.word.Pairing.{Pairing}
use Rattle.bit_blast.specs.declared.word.Pairing.TheVariants as pairing

-- the gate of a pairing on two wires
abbrev pub pair_gate : Pairing → ℕ → ℕ → NetGate
pair_gate pairing.And a b = gate.And a b
pair_gate pairing.Or a b = gate.Mux a a b
pair_gate pairing.Xor a b = gate.Xor a b
pair_gate (pairing.Mux p) a b = gate.Mux p a b

-- what it makes of two bits
abbrev pub pair_value : List Bool → Net → Pairing → Bool → Bool → Bool
pair_value ins net pairing.And a b = a && b
pair_value ins net pairing.Or a b = if a then a else b
pair_value ins net pairing.Xor a b = xor a b
pair_value ins net (pairing.Mux p) a b = if carried ins net p then a else b

-- the wires that a pairing names are of the net
abbrev pub IsPairing : Net → Pairing → Type 0
IsPairing net pairing.And = Unit {0}
IsPairing net pairing.Or = Unit {0}
IsPairing net pairing.Xor = Unit {0}
IsPairing net (pairing.Mux p) = IsWire net p

-- a function on each two bits at one place
abbrev pub zipped : (Bool → Bool → Bool) → List Bool → List Bool → List Bool
zipped f [] bs = []
zipped f (a ∷ as') [] = []
zipped f (a ∷ as') (b ∷ bs) = f a b ∷ zipped f as' bs
