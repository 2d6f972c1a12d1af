-- How a trace is printed: a head, a line for each choice, and the assert that is false.
use Rattle.std.specs.Prelude.{ℕ, List, [], ◌∷◌, ◌++◌, codes, decimal}
use Rattle.std.specs.List.{flat_map}
use Rattle.std.specs.Option.{option_map_or}
use Rattle.src_run.specs.declared.machine.Choice.{Choice}
use Rattle.src_run.specs.declared.machine.Choice.TheVariants.{Go, Val}
use Rattle.trace_text.specs.Values.{value_text}
use Rattle.trace_text.specs.declared.trace.Trace.{Trace}
use Rattle.trace_text.specs.declared.trace.TraceItem.{TraceItem}

-- a line ends with one line feed
abbrev pub line : List ℕ → List ℕ
line text = text ++ 10 ∷ []

-- the value of what has the name, or the place of a goto's target
abbrev pub choice_line : List ℕ → Choice → List ℕ
choice_line name (Val value) = line (codes "v " ++ name ++ codes " " ++ value_text value)
choice_line name (Go place) = line (codes "g " ++ decimal place)

abbrev pub item_line : TraceItem → List ℕ
item_line item = choice_line (option_map_or (λ (n : List ℕ). n) item.name []) item.choice

-- the procedure, and the number of its assert
abbrev pub end_line : List ℕ → ℕ → List ℕ
end_line proc assert = line (codes "fails " ++ proc ++ codes " " ++ decimal assert)

abbrev pub text_of_trace : Trace → List ℕ
text_of_trace trace = line (codes "Bug") ++ flat_map item_line trace.items ++ end_line trace.proc trace.assert
