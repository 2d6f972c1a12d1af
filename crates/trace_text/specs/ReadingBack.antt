-- Traces that are written are read back.
use Rattle.std.specs.Prelude.{◌≡◌, ◌<◌, ◌^◌, None, Some, Ok, IsTrue}
use Rattle.std.specs.List.{All}
use Rattle.hy_val.specs.NodeSorts.{is_sort}
use Rattle.hy_val.specs.Values.{has_sort}
use Rattle.hy_val.specs.declared.sort.Sort.{Sort}
use Rattle.src_run.specs.Names.{Name}
use Rattle.src_run.specs.declared.machine.Choice.{Choice}
use Rattle.src_run.specs.declared.machine.Choice.TheVariants.{Go, Val}
use Rattle.trace_text.specs.Reading.{trace_of}
use Rattle.trace_text.specs.Traces.{text_of_trace}
use Rattle.trace_text.specs.Words.{is_identifier}
use Rattle.trace_text.specs.declared.trace.Trace.{Trace}
use Rattle.trace_text.specs.declared.trace.TraceItem.{TraceItem}

-- a place that 32 bits hold, without a name; or a value of a sort, with an identifier
abbrev pub CanBeRead : Name → Choice → Type 0
CanBeRead None (Go place) = place < 2 ^ 32
CanBeRead (Some name) (Go place) = ⊥
CanBeRead None (Val value) = ⊥
CanBeRead (Some name) (Val value) = IsTrue (is_identifier name) × (sort : Sort) × IsTrue (is_sort sort) × IsTrue (has_sort value sort)

-- each of its lines can be read
pub record IsReadable (trace : Trace) : Type 0 where
  pub items : All (λ (item : TraceItem). CanBeRead item.name item.choice) trace.items
  pub proc : IsTrue (is_identifier trace.proc)
  pub assert : trace.assert < 2 ^ 32

-- a trace whose lines can be read is read from its text
abbrev pub TracesAreReadBack : Type 0
TracesAreReadBack = (trace : Trace) → IsReadable trace → trace_of (text_of_trace trace) ≡ Ok trace
