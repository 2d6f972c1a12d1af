use Rattle.std.proofs.Common.{◌≡◌, ◌+◌, drop, map}
use Rattle.trace_text.specs.Reading.{trace_of_lines}
use Rattle.trace_text.proofs.Lines.{behind}
use Rattle.trace_text.proofs.reading.trace_of_lines.Given as goal

abbrev pub invariant-loop-index : goal.invariant-loop-index
invariant-loop-index l = behind l.items (trace_of_lines (l.index + 2) (drop l.index (map (λ t. t.now) l.lines))) ≡ trace_of_lines 2 (map (λ t. t.now) l.lines)
