-- What clauses say of a net whose wires are their variables.
use Rattle.std.specs.Prelude.{◌≡◌, ℕ, ◌+◌, ◌↔◌, Bool, true, List, length, take}
use Rattle.cnf_form.specs.Literal.{Satisfies}
use Rattle.gate_net.specs.declared.net.NetGate.{NetGate}
use Rattle.gate_net.specs.Net.{value, values}

-- what satisfies new is what satisfies old and meets the fact
abbrev pub Ties : List (List ℕ) → List (List ℕ) → (List Bool → Type 0) → Type 0
Ties old new fact = (v : List Bool) → Satisfies v new ↔ (Satisfies v old × fact v)

-- what satisfies the clauses is what the wires carry for its first values
abbrev pub Encodes : ℕ → List NetGate → ℕ → List (List ℕ) → Type 0
Encodes inputs gates variables clauses =
    (v : List Bool) → length v ≡ variables → Satisfies v clauses ↔ (v ≡ values (take inputs v) gates)

-- the values are what the wires carry for the first of them, and the root is true
abbrev pub IsRunOf : ℕ → List NetGate → ℕ → List Bool → Type 0
IsRunOf inputs gates root v = (v ≡ values (take inputs v) gates) × (value (take inputs v) gates root ≡ true)

-- some inputs make the root true
abbrev pub CanBeTrue : ℕ → List NetGate → ℕ → Type 0
CanBeTrue inputs gates root = (ins : List Bool) × (length ins ≡ inputs) × (value ins gates root ≡ true)

-- some values that begin with these satisfy the clauses
abbrev pub SatisfiableWith : List Bool → ℕ → List (List ℕ) → Type 0
SatisfiableWith ins variables clauses =
    (v : List Bool) × (length v ≡ variables) × (take (length ins) v ≡ ins) × Satisfies v clauses
