-- Where the entries of each map stand. No public clause cites it.
use Rattle.std.specs.Prelude.{ℕ, List, length, Option}
use Rattle.std.specs.Option.{unwrap_or}
use Rattle.map_axioms.specs.declared.entry.Entry.{Entry}
use Rattle.map_axioms.specs.Steps.{IsNext}

-- what is found for a map variable is the place of its first entry from the place i on; where nothing is found, there is none
abbrev pub FirstsFrom : List Entry → (ℕ → Option ℕ) → ℕ → Type 0
FirstsFrom es find i = (m : ℕ) → IsNext es m i (unwrap_or (find m) (length es))
