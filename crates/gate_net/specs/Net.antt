-- What the wires of a net carry. The wires are the inputs and then the gates, numbered from 0.
use Rattle.std.specs.Prelude.{◌≡◌, ℕ, suc, ◌+◌, ◌<◌, nat_lt, Bool, true, false, not, ◌&&◌, if◌then◌else◌, List, [], ◌∷◌, ◌++◌, length, slice_index_or}
use Rattle.gate_net.specs.declared.net.NetGate.{NetGate}
use Rattle.gate_net.specs.declared.net.NetGate.TheVariants as gate

-- exactly one of them
abbrev pub xor : Bool → Bool → Bool
xor true b = not b
xor false b = b

-- what the wire k carries, where the wires carry these values
abbrev pub wire : List Bool → ℕ → Bool
wire vs k = slice_index_or vs k false

-- what a gate carries, where the lower wires carry these values
abbrev pub gate_value : List Bool → NetGate → Bool
gate_value vs gate.False = false
gate_value vs gate.True = true
gate_value vs (gate.And a b) = wire vs a && wire vs b
gate_value vs (gate.Xor a b) = xor (wire vs a) (wire vs b)
gate_value vs (gate.Mux p a b) = if wire vs p then wire vs a else wire vs b

-- what all wires carry, where the first ones carry these values and the gates stand behind them
abbrev pub values : List Bool → List NetGate → List Bool
values vs [] = vs
values vs (g ∷ gs) = values (vs ++ gate_value vs g ∷ []) gs

-- what the wire k carries for these inputs
abbrev pub value : List Bool → List NetGate → ℕ → Bool
value ins gates k = wire (values ins gates) k

-- the gate names wires below the number n alone
abbrev pub is_lower : ℕ → NetGate → Bool
is_lower n gate.False = true
is_lower n gate.True = true
is_lower n (gate.And a b) = nat_lt a n && nat_lt b n
is_lower n (gate.Xor a b) = nat_lt a n && nat_lt b n
is_lower n (gate.Mux p a b) = nat_lt p n && (nat_lt a n && nat_lt b n)

-- each gate names wires of lower numbers than its own alone, where the first has the number n
abbrev pub are_lower : ℕ → List NetGate → Bool
are_lower n [] = true
are_lower n (g ∷ gs) = is_lower n g && are_lower (suc n) gs

-- the wires of old carry the same in new, for all inputs
abbrev pub IsKept : ℕ → List NetGate → List NetGate → Type 0
IsKept inputs old new =
    (ins : List Bool) → length ins ≡ inputs → (k : ℕ) → k < inputs + length old → value ins new k ≡ value ins old k

-- the wire k carries b for all inputs
abbrev pub IsConstant : ℕ → List NetGate → ℕ → Bool → Type 0
IsConstant inputs gates k b = (ins : List Bool) → length ins ≡ inputs → value ins gates k ≡ b

-- the net has the wire k, and it carries what the gate would, for all inputs
abbrev pub Carries : ℕ → List NetGate → ℕ → NetGate → Type 0
Carries inputs gates k g =
    (k < inputs + length gates) × ((ins : List Bool) → length ins ≡ inputs → value ins gates k ≡ gate_value (values ins gates) g)
