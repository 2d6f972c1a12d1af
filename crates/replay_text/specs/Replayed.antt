-- What the replay of a text says: whether it is the trace of a failing run.
use Rattle.std.specs.Prelude.{◌≡◌, ℕ, List, length, map, Result, Ok, Err}
use Rattle.src_prog.specs.Program.{Program}
use Rattle.src_run.specs.Machine.{HasStatus}
use Rattle.src_run.specs.declared.machine.Choice.{Choice}
use Rattle.src_run.specs.declared.machine.Status.{Status}
use Rattle.src_run.specs.declared.machine.Status.TheVariants.{Going, Ended, Failed, Blocked, Cut, BadChoice}
use Rattle.trace_text.specs.Printing.{IsPrinted}
use Rattle.trace_text.specs.Reading.{trace_of}
use Rattle.trace_text.specs.declared.trace.Trace.{Trace}
use Rattle.trace_text.specs.declared.trace.TraceFault.{TraceFault}
use Rattle.trace_text.specs.declared.trace.TraceItem.{TraceItem}
use Rattle.replay_text.specs.Lines.{IsFirstDifference}
use Rattle.replay_text.specs.declared.replaying.Replayed.{Replayed}
use Rattle.replay_text.specs.declared.replaying.Replayed.TheVariants.{Unread, NotFailed, Differs, Done}

abbrev pub choices_of : Trace → List Choice
choices_of trace = map (λ (item : TraceItem). item.choice) trace.items

-- the index that is told beside the status of a run which doesn't fail: that of the bad choice, or else the number of choices
abbrev pub IsIndex : Status → (count index : ℕ) → Type 0
IsIndex Going count index = index ≡ count
IsIndex Ended count index = index ≡ count
IsIndex (Failed proc assert) count index = ⊥
IsIndex Blocked count index = index ≡ count
IsIndex Cut count index = index ≡ count
IsIndex (BadChoice bad) count index = index ≡ bad

-- the run on the choices fails, and this is the first line of the text that isn't one of its printed trace
abbrev pub DiffersAt : Program → (entry bound : ℕ) → (text : List ℕ) → List Choice → (line : ℕ) → Type 0
DiffersAt prog entry bound text choices line = (printed : List ℕ) × IsPrinted prog entry bound choices printed × IsFirstDifference text printed line

-- what is said of a text with these choices: that their run doesn't fail, that the text isn't the printed trace, or that it is, and where the run fails
abbrev pub IsJudged : Program → (entry bound : ℕ) → (text : List ℕ) → List Choice → Replayed → Type 0
IsJudged prog entry bound text choices (Unread fault) = ⊥
IsJudged prog entry bound text choices (NotFailed status index) = HasStatus prog entry bound choices status × IsIndex status (length choices) index
IsJudged prog entry bound text choices (Differs line) = DiffersAt prog entry bound text choices line
IsJudged prog entry bound text choices (Done proc assert) = HasStatus prog entry bound choices (Failed proc assert) × IsPrinted prog entry bound choices text

-- a text that is no trace has a fault
abbrev pub IsReplayedAs : Program → (entry bound : ℕ) → (text : List ℕ) → Result Trace TraceFault → Replayed → Type 0
IsReplayedAs prog entry bound text (Err fault) replayed = replayed ≡ Unread fault
IsReplayedAs prog entry bound text (Ok trace) replayed = IsJudged prog entry bound text (choices_of trace) replayed

-- what the replay of a text says of the runs of an entry within a bound
abbrev pub IsReplayed : Program → (entry bound : ℕ) → (text : List ℕ) → Replayed → Type 0
IsReplayed prog entry bound text replayed = IsReplayedAs prog entry bound text (trace_of text) replayed
