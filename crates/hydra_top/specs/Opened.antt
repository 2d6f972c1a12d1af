-- Which files were opened.
use Rattle.std.specs.Prelude.{◌≡◌, ℕ, true, false, List, [], ◌∷◌, ◌++◌, ◌⊎◌, take, Result, Ok, Err, ⊤}
use Rattle.hy_text.specs.declared.refusal.Or.{Or}
use Rattle.hy_text.specs.declared.refusal.Or.TheVariants as ors
use Rattle.hydra_top.specs.declared.outcome.NotBuilt.TheVariants.{Words as NotBuiltWords, Source}
use Rattle.hydra_top.specs.declared.outcome.Outcome.{Outcome}
use Rattle.hydra_top.specs.declared.outcome.Outcome.TheVariants.{Safe, Bug, Done, Refused, ReadFault, WriteFault, NoMemory}
use Rattle.hydra_top.specs.declared.outcome.Refusal.{Refusal}
use Rattle.hydra_top.specs.declared.outcome.Refusal.TheVariants.{NotBuilt, Words, TooLong, Lex, Parse, Typing, Flow, NoEntry, TraceText, NotFailed, Differs}
use Rattle.hydra_top.specs.declared.reading.ReadEnd.{ReadEnd}
use Rattle.hydra_top.specs.Words.{Job, solo, replay, show, Task}

-- the files that a job needs behind the first
abbrev pub seconds : Job → List (List ℕ)
seconds (solo entry bound) = []
seconds (replay entry bound trace) = trace ∷ []
seconds show = []

-- the names of the files that a task needs, in the order in which they are opened
abbrev pub files_of : Task → List (List ℕ)
files_of task = task.file ∷ seconds task.job

-- how many of them are opened for an outcome: none, the first, all, or some front of them
pub data Extent : Type 0 where
  nothing : Extent
  first : Extent
  all : Extent
  front : Extent

abbrev pub extent_refused : Refusal → Extent
extent_refused (Words fault) = nothing
extent_refused (NotBuilt NotBuiltWords) = nothing
extent_refused (NotBuilt Source) = first
extent_refused (TooLong false) = first
extent_refused (TooLong true) = all
extent_refused (Lex fault) = first
extent_refused (Parse fault) = first
extent_refused (Typing fault) = first
extent_refused (Flow fault) = first
extent_refused (NoEntry name) = first
extent_refused (TraceText fault) = all
extent_refused (NotFailed status index) = all
extent_refused (Differs line) = all

abbrev pub extent : Outcome → Extent
extent Safe = all
extent (Bug choices proc assert) = all
extent Done = all
extent (Refused refusal) = extent_refused refusal
extent ReadFault = front
extent WriteFault = front
extent NoMemory = front

abbrev pub OpensAs : Extent → Task → (before now : List (List ℕ)) → Type 0
OpensAs nothing task before now = now ≡ before
OpensAs first task before now = now ≡ before ++ task.file ∷ []
OpensAs all task before now = now ≡ before ++ files_of task
OpensAs front task before now = (n : ℕ) × (now ≡ before ++ take n (files_of task))

-- The files of the task are opened in order, as many as the outcome needs; none where there is no task.
abbrev pub Opens : Result Task Refusal → Outcome → (before now : List (List ℕ)) → Type 0
Opens (Err refusal) outcome before now = now ≡ before
Opens (Ok task) outcome before now = OpensAs (extent outcome) task before now

-- ---- a file that is refused

-- only the first file was looked at
abbrev pub RefusesFirst : {A : Type 0} → Result A (Or Refusal) → Type 0
RefusesFirst (Ok answer) = ⊤
RefusesFirst (Err (ors.Fault refusal)) = extent_refused refusal ≡ first
RefusesFirst (Err ors.NoMemory) = ⊤

-- the file was looked at, where no other is needed
abbrev pub LooksAtOne : Extent → Type 0
LooksAtOne nothing = ⊥
LooksAtOne first = ⊤
LooksAtOne all = ⊤
LooksAtOne front = ⊥

-- a file of this name was opened, or, where only some front of the files is, it may have been
abbrev pub OpensOneMore : Extent → (name : List ℕ) → (before now : List (List ℕ)) → Type 0
OpensOneMore nothing name before now = ⊥
OpensOneMore first name before now = ⊥
OpensOneMore all name before now = now ≡ before ++ name ∷ []
OpensOneMore front name before now = (now ≡ before) ⊎ (now ≡ before ++ name ∷ [])

-- a file that was read was opened
abbrev pub read_extent : {T : Type 0} → Result T ReadEnd → Extent
read_extent (Ok source) = all
read_extent (Err end) = front

-- some front of the files of the task were opened, and none where there is no task
abbrev pub OpensSome : Result Task Refusal → (before now : List (List ℕ)) → Type 0
OpensSome (Err refusal) before now = now ≡ before
OpensSome (Ok task) before now = OpensAs front task before now
