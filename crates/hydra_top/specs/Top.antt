-- What the program promises of its outcome and of what it prints.
use Rattle.std.specs.Prelude.{◌≡◌, ◌≢◌, ℕ, nat_le, Bool, true, false, List, ◌⊎◌, Option, Some, length, codes, Result, Ok, Err, ⊤}
use Rattle.std.specs.Io.KnownBytes.{Appends}
use Rattle.std.specs.Result.{IsOk}
use Rattle.bpl_ast.specs.declared.decl.Ast.{Ast}
use Rattle.bpl_show.specs.Shown.{shown_text}
use Rattle.hy_outside.specs.Outside.{OpensTo, Rose}
use Rattle.replay_text.specs.Replayed.{IsReplayed}
use Rattle.replay_text.specs.declared.replaying.Replayed.{Replayed}
use Rattle.replay_text.specs.declared.replaying.Replayed.TheVariants as replays
use Rattle.src_prog.specs.Program.{Program}
use Rattle.src_run.specs.Machine.{HasStatus, NoneFails}
use Rattle.src_run.specs.Plain.{is_plain}
use Rattle.src_run.specs.declared.machine.Status.TheVariants.{Failed}
use Rattle.trace_text.specs.Printing.{IsPrinted, proc_name}
use Rattle.trace_text.specs.Traces.{line}
use Rattle.hydra_top.specs.declared.entry.Entered.{Entered}
use Rattle.hydra_top.specs.declared.outcome.NotBuilt.TheVariants.{Source}
use Rattle.hydra_top.specs.declared.outcome.Refusal.{Refusal}
use Rattle.hydra_top.specs.declared.outcome.Refusal.TheVariants.{NotBuilt, TooLong, TraceText, NotFailed, Differs}
use Rattle.hydra_top.specs.declared.outcome.Outcome.{Outcome}
use Rattle.hydra_top.specs.declared.outcome.Outcome.TheVariants.{Safe, Bug, Done, Refused, ReadFault, WriteFault, NoMemory}
use Rattle.hydra_top.specs.Entry.{entered_in}
use Rattle.hydra_top.specs.Reading.{limit}
use Rattle.hydra_top.specs.Texts.{refusal_text, replayed_text}
use Rattle.hydra_top.specs.Trees.{IsReadAs}
use Rattle.hydra_top.specs.Words.{Job, solo, replay, show, Task, task_of}
use Rattle.hydra_top.specs.Writing.{AppendsFront}

-- the input is refused, and the line says why
abbrev pub IsRefused : Refusal → Outcome → (text : List ℕ) → Type 0
IsRefused refusal outcome text = (outcome ≡ Refused refusal) × (text ≡ refusal_text refusal)

-- ---- the search

-- The verdict on the runs of an entry within a bound, and its text: Safe where none fails, Bug with a failing one and its printed trace.
abbrev pub IsVerdict : Program → (entry bound : ℕ) → Outcome → (text : List ℕ) → Type 0
IsVerdict prog entry bound Safe text = NoneFails prog entry bound × (text ≡ line (codes "Safe"))
IsVerdict prog entry bound (Bug choices proc assert) text = HasStatus prog entry bound choices (Failed proc assert) × IsPrinted prog entry bound choices text
IsVerdict prog entry bound Done text = ⊥
IsVerdict prog entry bound (Refused refusal) text = ⊥
IsVerdict prog entry bound ReadFault text = ⊥
IsVerdict prog entry bound WriteFault text = ⊥
IsVerdict prog entry bound NoMemory text = ⊥

-- the runs of a plain entry are searched; another one is refused, since its search is not built
abbrev pub IsSearched : Program → (entry bound : ℕ) → (plain : Bool) → Outcome → (text : List ℕ) → Type 0
IsSearched prog entry bound true outcome text = IsVerdict prog entry bound outcome text
IsSearched prog entry bound false outcome text = IsRefused (NotBuilt Source) outcome text

-- ---- the replay

-- what is told of a replay: why the text is refused, or where the run fails
abbrev pub TellsReplay : Program → Replayed → Outcome → (text : List ℕ) → Type 0
TellsReplay prog (replays.Unread fault) outcome text = IsRefused (TraceText fault) outcome text
TellsReplay prog (replays.NotFailed status index) outcome text = IsRefused (NotFailed status index) outcome text
TellsReplay prog (replays.Differs number) outcome text = IsRefused (Differs number) outcome text
TellsReplay prog (replays.Done proc assert) outcome text = (outcome ≡ Done) × (text ≡ replayed_text (proc_name prog proc) assert)

-- the trace's bytes are replayed, or there are too many
abbrev pub IsReplayOf : Program → (entry bound : ℕ) → (bytes : List ℕ) → (fits : Bool) → Outcome → (text : List ℕ) → Type 0
IsReplayOf prog entry bound bytes true outcome text = (replayed : Replayed) × IsReplayed prog entry bound bytes replayed × TellsReplay prog replayed outcome text
IsReplayOf prog entry bound bytes false outcome text = IsRefused (TooLong true) outcome text

-- The trace is the file of its name, where the shelf tells its files, and else it is some bytes.
abbrev pub IsTraced : Option (List (List ℕ × List ℕ)) → (name : List ℕ) → Program → (entry bound : ℕ) → Outcome → (text : List ℕ) → Type 0
IsTraced files name prog entry bound outcome text = (bytes : List ℕ) × OpensTo files name (Some bytes) × IsReplayOf prog entry bound bytes (nat_le (length bytes) limit) outcome text

-- ---- jobs

-- the outcome of a job on the entry of a program
abbrev pub IsRun : Option (List (List ℕ × List ℕ)) → Job → Entered → Outcome → (text : List ℕ) → Type 0
IsRun files (solo name bound) e outcome text = IsSearched e.prog e.entry bound (is_plain e.prog e.entry) outcome text
IsRun files (replay name bound trace) e outcome text = IsTraced files trace e.prog e.entry bound outcome text
IsRun files show e outcome text = ⊥

-- a program without faults that has the entry is run, and every other file is refused
abbrev pub IsAtEntry : Option (List (List ℕ × List ℕ)) → Job → Result Entered Refusal → Outcome → (text : List ℕ) → Type 0
IsAtEntry files job (Err refusal) outcome text = IsRefused refusal outcome text
IsAtEntry files job (Ok e) outcome text = IsRun files job e outcome text

-- a tree is shown in its canonical form
abbrev pub IsShown : Result Ast Refusal → Outcome → (text : List ℕ) → Type 0
IsShown (Err refusal) outcome text = IsRefused refusal outcome text
IsShown (Ok tree) outcome text = (outcome ≡ Done) × (text ≡ shown_text tree)

-- the outcome of a job on what a file is read as
abbrev pub IsRead : Option (List (List ℕ × List ℕ)) → Job → Result Ast Refusal → Outcome → (text : List ℕ) → Type 0
IsRead files (solo name bound) read outcome text = IsAtEntry files (solo name bound) (entered_in name read) outcome text
IsRead files (replay name bound trace) read outcome text = IsAtEntry files (replay name bound trace) (entered_in name read) outcome text
IsRead files show read outcome text = IsShown read outcome text

-- the outcome of a job on a file of these bytes
pub record IsDone (files : Option (List (List ℕ × List ℕ))) (job : Job) (bytes : List ℕ) (outcome : Outcome) (text : List ℕ) : Type 0 where
  pub read : Result Ast Refusal
  pub reads : IsReadAs bytes read
  pub judged : IsRead files job read outcome text

-- The outcome for the file that the task names. Where the shelf tells its files it is the file of that name, and else it is some bytes.
abbrev pub IsJudged : Option (List (List ℕ × List ℕ)) → Task → Outcome → (text : List ℕ) → Type 0
IsJudged files task outcome text = (bytes : List ℕ) × OpensTo files task.file (Some bytes) × IsDone files task.job bytes outcome text

-- ---- what may be told

-- the outcome for the words, where no fault came and memory sufficed: words that ask for no task are refused
abbrev pub IsRight : Option (List (List ℕ × List ℕ)) → Result Task Refusal → Outcome → (text : List ℕ) → Type 0
IsRight files (Err refusal) outcome text = IsRefused refusal outcome text
IsRight files (Ok task) outcome text = IsJudged files task outcome text

-- an outcome that may be told for the words, and its text: a right one, a fault of reading a file, or want of memory
abbrev pub MayTell : Option (List (List ℕ × List ℕ)) → Result Task Refusal → Outcome → (text : List ℕ) → Type 0
MayTell files task Safe text = IsRight files task Safe text
MayTell files task (Bug choices proc assert) text = IsRight files task (Bug choices proc assert) text
MayTell files task Done text = IsRight files task Done text
MayTell files task (Refused refusal) text = IsRight files task (Refused refusal) text
MayTell files task ReadFault text = IsOk task × (text ≡ line (codes "fault: read"))
MayTell files task WriteFault text = ⊥
MayTell files task NoMemory text = text ≡ line (codes "no memory")

-- a verdict or a refusal comes only where the shelf's count of faults stays, a fault of reading only where it rose
abbrev pub ReadCauses : ℕ → ℕ → Outcome → Type 0
ReadCauses before now Safe = now ≡ before
ReadCauses before now (Bug choices proc assert) = now ≡ before
ReadCauses before now Done = now ≡ before
ReadCauses before now (Refused refusal) = now ≡ before
ReadCauses before now ReadFault = Rose before now
ReadCauses before now WriteFault = ⊤
ReadCauses before now NoMemory = ⊤

-- an outcome that is told for the words, its text, and why it may be told
pub record IsTold (before now : ℕ) (files : Option (List (List ℕ × List ℕ))) (task : Result Task Refusal) (outcome : Outcome) (text : List ℕ) : Type 0 where
  pub may : MayTell files task outcome text
  pub causes : ReadCauses before now outcome

-- the outcome is right, unless its text could not be written
abbrev pub RightFor : Option (List (List ℕ × List ℕ)) → (words : List (List ℕ)) → Outcome → Type 0
RightFor files words outcome = outcome ≢ WriteFault → (text : List ℕ) × MayTell files (task_of words) outcome text

-- the sink has grown by the text of the outcome
pub record Prints (before now : ℕ) (files : Option (List (List ℕ × List ℕ))) (words : List (List ℕ)) (held grown : Option (List ℕ)) (outcome : Outcome) : Type 0 where
  pub text : List ℕ
  pub told : IsTold before now files (task_of words) outcome text
  pub appends : Appends held grown text

-- the sink has grown by a front of the text of some outcome that may be told
pub record PrintsFront (before now : ℕ) (files : Option (List (List ℕ × List ℕ))) (words : List (List ℕ)) (held grown : Option (List ℕ)) : Type 0 where
  pub begun : Outcome
  pub text : List ℕ
  pub told : IsTold before now files (task_of words) begun text
  pub appends : AppendsFront held grown text

-- an outcome that may come where the shelf's count of faults grew
abbrev pub MayMask : Outcome → Type 0
MayMask Safe = ⊥
MayMask (Bug choices proc assert) = ⊥
MayMask Done = ⊥
MayMask (Refused refusal) = ⊥
MayMask ReadFault = ⊤
MayMask WriteFault = ⊤
MayMask NoMemory = ⊤

-- ---- steps

-- a file could not be read
abbrev pub IsUnread : (before now : ℕ) → Outcome → (text : List ℕ) → Type 0
IsUnread before now outcome text = (outcome ≡ ReadFault) × (text ≡ line (codes "fault: read")) × Rose before now

-- what is right is told, where the count of faults stays, or a file could not be read
abbrev pub Tells : (before now : ℕ) → (right : Type 0) → Outcome → (text : List ℕ) → Type 0
Tells before now right outcome text = (right × (now ≡ before)) ⊎ IsUnread before now outcome text
