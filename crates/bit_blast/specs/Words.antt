-- Words: lists of wires, lowest bit first, and the numbers that they carry. Circuits are gates that a net grows by.
use Rattle.std.specs.Prelude.{◌≡◌, ℕ, ◌+◌, ◌*◌, ◌<◌, ◌≤◌, Bool, true, false, List, [], ◌∷◌, length, map, All}
use Rattle.gate_net.specs.Net.{value, IsKept}
use Rattle.gate_net.specs.declared.net.Net.{Net}

abbrev pub bit : Bool → ℕ
bit true = 1
bit false = 0

-- bits as a number, lowest first
abbrev pub number : List Bool → ℕ
number [] = 0
number (b ∷ bs) = bit b + 2 * number bs

-- what a wire of the net carries for these inputs
abbrev pub carried : List Bool → Net → ℕ → Bool
carried ins net k = value ins net.gates.items k

-- what the wires carry
abbrev pub bits : List Bool → Net → List ℕ → List Bool
bits ins net wires = map (λ (k : ℕ). carried ins net k) wires

-- the number that a word carries
abbrev pub word : List Bool → Net → List ℕ → ℕ
word ins net wires = number (bits ins net wires)

-- the net has the wire
abbrev pub IsWire : Net → ℕ → Type 0
IsWire net k = k < net.inputs + length net.gates.items

-- the net has the wires
abbrev pub AreWires : Net → List ℕ → Type 0
AreWires net wires = All (IsWire net) wires

-- a word of w wires of the net
pub record IsWord (net : Net) (w : ℕ) (wires : List ℕ) : Type 0 where
  pub width : length wires ≡ w
  pub there : AreWires net wires

-- the net has grown by at most k gates: inputs and root stay, and each old wire carries what it did
pub record Grows (old new : Net) (k : ℕ) : Type 0 where
  pub inputs : new.inputs ≡ old.inputs
  pub root : new.root ≡ old.root
  pub more : length old.gates.items ≤ length new.gates.items
  pub count : length new.gates.items ≤ length old.gates.items + k
  pub kept : IsKept old.inputs old.gates.items new.gates.items

-- for each choice of the inputs the wire carries this
abbrev pub Says : Net → ℕ → (List Bool → Bool) → Type 0
Says net k meaning = (ins : List Bool) → length ins ≡ net.inputs → carried ins net k ≡ meaning ins

-- for each choice of the inputs the word carries this number
abbrev pub Means : Net → List ℕ → (List Bool → ℕ) → Type 0
Means net wires meaning = (ins : List Bool) → length ins ≡ net.inputs → word ins net wires ≡ meaning ins
