-- Which text is a trace, and of which trace; and the first fault of every other text.
use Rattle.std.specs.Prelude.{◌≡◌, ℕ, ◌+◌, ◌-◌, ◌^◌, ◌==◌, List, [], ◌∷◌, length, Option, None, Some, option_map, Result, Ok, Err, codes, if◌then◌else◌}
use Rattle.std.specs.Str.{bytes_eq}
use Rattle.hy_text.specs.declared.refusal.Or.{Or}
use Rattle.hy_text.specs.declared.refusal.Or.TheVariants as ors
use Rattle.src_run.specs.declared.machine.Choice.TheVariants.{Go, Val}
use Rattle.trace_text.specs.ReadValues.{value_of}
use Rattle.trace_text.specs.Words.{is_identifier, number_up_to, parts}
use Rattle.trace_text.specs.declared.reading.lines.Line.{Line}
use Rattle.trace_text.specs.declared.reading.lines.Line.TheVariants.{Item, End}
use Rattle.trace_text.specs.declared.trace.Trace.{Trace}
use Rattle.trace_text.specs.declared.trace.TraceFault.{TraceFault}
use Rattle.trace_text.specs.declared.trace.TraceItem.{TraceItem}
use Rattle.trace_text.specs.declared.trace.TraceKind.{TraceKind}
use Rattle.trace_text.specs.declared.trace.TraceKind.TheVariants.{NoHead, BadLine, NoEnd, AfterEnd}

-- ---- lines

-- what follows the last line feed is a line where it isn't empty
abbrev pub without_empty_end : List (List ℕ) → List (List ℕ)
without_empty_end [] = []
without_empty_end (last ∷ []) = if length last == 0 then [] else last ∷ []
without_empty_end (first ∷ second ∷ more) = first ∷ without_empty_end (second ∷ more)

abbrev pub lines_of : List ℕ → List (List ℕ)
lines_of text = without_empty_end (parts 10 text)

-- ---- the forms of a line

-- a number of a trace is at most the greatest of 32 bits
abbrev pub number_of : List ℕ → Option ℕ
number_of digits = number_up_to (2 ^ 32 - 1) digits

-- `g NUMBER`
abbrev pub place_line : List ℕ → List ℕ → Option Line
place_line mark number = if bytes_eq mark (codes "g") then option_map (λ n. Item (record { name = None; choice = Go n })) (number_of number) else None

-- `v NAME VALUE`
abbrev pub value_line : List ℕ → List ℕ → Option Line
value_line name text = option_map (λ v. Item (record { name = Some name; choice = Val v })) (value_of text)

-- `fails PROC NUMBER`
abbrev pub end_line : List ℕ → List ℕ → Option Line
end_line proc text = option_map (λ n. End proc n) (number_of text)

abbrev pub named_line : List ℕ → List ℕ → List ℕ → Option Line
named_line mark name text = if bytes_eq mark (codes "v") then value_line name text else if bytes_eq mark (codes "fails") then end_line name text else None

-- a line of these words
abbrev pub line_of_words : List (List ℕ) → Option Line
line_of_words (mark ∷ number ∷ []) = place_line mark number
line_of_words (mark ∷ name ∷ text ∷ []) = if is_identifier name then named_line mark name text else None
line_of_words _ = None

-- one space stands between words
abbrev pub line_of : List ℕ → Option Line
line_of text = line_of_words (parts 32 text)

-- ---- a whole text

abbrev pub fault_at : ℕ → TraceKind → Result Trace TraceFault
fault_at number kind = Err (record { line = number; kind = kind })

abbrev pub behind_item : TraceItem → Result Trace TraceFault → Result Trace TraceFault
behind_item item (Ok trace) = Ok (record { items = item ∷ trace.items; proc = trace.proc; assert = trace.assert })
behind_item item (Err fault) = Err fault

-- the line that names the assert is the last one
abbrev pub ended : List ℕ → ℕ → ℕ → List (List ℕ) → Result Trace TraceFault
ended proc assert number [] = Ok (record { items = []; proc = proc; assert = assert })
ended proc assert number (line ∷ more) = fault_at number AfterEnd

-- a line of this number and form, the lines behind it, and the trace that they are
abbrev pub with_line : ℕ → Option Line → List (List ℕ) → Result Trace TraceFault → Result Trace TraceFault
with_line number None lines trace = fault_at number BadLine
with_line number (Some (Item item)) lines trace = behind_item item trace
with_line number (Some (End proc assert)) lines trace = ended proc assert (number + 1) lines

-- the lines behind the head, of which the first has this number
abbrev pub trace_of_lines : ℕ → List (List ℕ) → Result Trace TraceFault
trace_of_lines number [] = fault_at number NoEnd
trace_of_lines number (line ∷ lines) = with_line number (line_of line) lines (trace_of_lines (number + 1) lines)

abbrev pub headed : List (List ℕ) → Result Trace TraceFault
headed [] = fault_at 1 NoHead
headed (head ∷ lines) = if bytes_eq head (codes "Bug") then trace_of_lines 2 lines else fault_at 1 NoHead

-- the trace that a text is, or its first fault
abbrev pub trace_of : List ℕ → Result Trace TraceFault
trace_of text = headed (lines_of text)

-- what a call answers is this, unless memory ran out
abbrev pub Gives : Result Trace (Or TraceFault) → Result Trace TraceFault → Type 0
Gives (Ok trace) read = read ≡ Ok trace
Gives (Err (ors.Fault fault)) read = read ≡ Err fault
Gives (Err ors.NoMemory) read = Unit {0}
