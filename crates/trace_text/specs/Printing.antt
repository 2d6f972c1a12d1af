-- The trace of a list of choices on which a run fails.
use Rattle.std.specs.Prelude.{◌≡◌, ℕ, List, [], ◌∷◌, slice_get}
use Rattle.std.specs.Option.{option_map_or}
use Rattle.src_prog.specs.Program.{Program}
use Rattle.src_prog.specs.declared.proc.SrcProc.{SrcProc}
use Rattle.src_run.specs.Machine.{HasStatus}
use Rattle.src_run.specs.Names.{HasNames, Name}
use Rattle.src_run.specs.declared.machine.Choice.{Choice}
use Rattle.src_run.specs.declared.machine.Status.{Status}
use Rattle.src_run.specs.declared.machine.Status.TheVariants.{Going, Ended, Failed, Blocked, Cut, BadChoice}
use Rattle.trace_text.specs.Traces.{text_of_trace}
use Rattle.trace_text.specs.declared.trace.Trace.{Trace}
use Rattle.trace_text.specs.declared.trace.TraceItem.{TraceItem}

abbrev pub IsFailed : Status → Type 0
IsFailed Going = ⊥
IsFailed Ended = ⊥
IsFailed (Failed proc assert) = Unit {0}
IsFailed Blocked = ⊥
IsFailed Cut = ⊥
IsFailed (BadChoice index) = ⊥

-- each choice with its name, as far as there are both
abbrev pub items_of : List Name → List Choice → List TraceItem
items_of [] choices = []
items_of (name ∷ names) [] = []
items_of (name ∷ names) (choice ∷ choices) = record { name = name; choice = choice } ∷ items_of names choices

abbrev pub proc_name : Program → ℕ → List ℕ
proc_name prog number = option_map_or (λ (p : SrcProc). p.name) (slice_get prog.procs number) []

abbrev pub trace_with : Program → List Choice → List Name → (proc assert : ℕ) → Trace
trace_with prog choices names proc assert = record { items = items_of names choices; proc = proc_name prog proc; assert = assert }

-- The run of the entry fails on the choices. The trace has them, each with the name of what takes it, and names the assert that is false.
pub record IsTraceOf (prog : Program) (entry bound : ℕ) (choices : List Choice) (trace : Trace) : Type 0 where
  pub proc : ℕ
  pub assert : ℕ
  pub names : List Name
  pub fails : HasStatus prog entry bound choices (Failed proc assert)
  pub are : HasNames prog entry bound choices names
  pub is : trace ≡ trace_with prog choices names proc assert

-- the text of that trace
abbrev pub IsPrinted : Program → (entry bound : ℕ) → List Choice → List ℕ → Type 0
IsPrinted prog entry bound choices text = (trace : Trace) × IsTraceOf prog entry bound choices trace × (text ≡ text_of_trace trace)
