-- What the verdict of a book says of the program whose flat program it searches.
use Rattle.std.specs.Prelude.{◌≡◌, ℕ, ◌<◌, List, length, slice_get, Some, IsTrue}
use Rattle.extract_def.specs.Extraction.{flat_of}
use Rattle.extract_law.specs.Choices.{choices_of}
use Rattle.flat_prog.specs.Nodes.{run_of}
use Rattle.flat_prog.specs.Runs.{FailsIn, IsFull}
use Rattle.flat_prog.specs.Shape.{IsFlat}
use Rattle.flat_prog.specs.Trees.{Run}
use Rattle.flat_prog.specs.declared.run.RunNode.{RunNode}
use Rattle.piece_core.specs.Book.{IsSound, Ledger, verdict_of}
use Rattle.piece_core.specs.Evidence.{shapes_of}
use Rattle.piece_core.specs.declared.events.Entry.{Entry}
use Rattle.piece_core.specs.declared.leaves.Leaf.{Leaf}
use Rattle.piece_core.specs.declared.leaves.Status2.{Status2}
use Rattle.piece_core.specs.declared.leaves.Status2.TheVariants.{Live, Closed, Found, Split}
use Rattle.piece_core.specs.declared.tasks.Task.{Task}
use Rattle.piece_core.specs.declared.verdicts.Verdict2.TheVariants as verdicts
use Rattle.src_prog.specs.Program.{Program}
use Rattle.src_prog.specs.Shape.{is_program}
use Rattle.src_run.specs.Machine.{HasStatus, NoneFails}
use Rattle.src_run.specs.declared.machine.Choice.{Choice}
use Rattle.src_run.specs.declared.machine.Status.{Status}
use Rattle.src_run.specs.declared.machine.Status.TheVariants.{Going, Ended, Failed, Blocked, Cut, BadChoice}
use Rattle.book_verdict.specs.declared.judging.Judgement.{Judgement}
use Rattle.book_verdict.specs.declared.judging.Judgement.TheVariants.{Bug, Safe, Unfinished}

-- the node was found: this run in it fails
pub record HasFound (nodes : List Leaf) (node : ℕ) (run : List RunNode) : Type 0 where
  pub leaf : Leaf
  pub at : slice_get nodes node ≡ Some leaf
  pub found : leaf.status ≡ Found run

-- A run tree of the full inlining of a program's flat program fails, and the machine fails in the same assert on the choices for which it stands.
pub record FailsAs (prog : Program) (task : Task) (run : Run) : Type 0 where
  pub proc : ℕ
  pub number : ℕ
  pub full : IsFull task.flat task.entry task.bound run
  pub tree : FailsIn task.flat task.entry run proc number
  pub machine : HasStatus prog task.entry task.bound (choices_of prog task.flat task.entry run) (Failed proc number)

-- ---- the laws

-- a sound book of a program's flat program
pub record IsBookOf (prog : Program) (task : Task) (nodes : List Leaf) (entries : List Entry) : Type 0 where
  pub program : IsTrue (is_program prog)
  pub flat : IsFlat task.flat
  pub extracted : task.flat ≡ flat_of prog
  pub sound : IsSound task nodes entries

-- where its verdict is Safe, no run fails
abbrev pub SafeBooksAreSafe : Type 0
SafeBooksAreSafe =
    (prog : Program) (task : Task) (nodes : List Leaf) (entries : List Entry) → IsBookOf prog task nodes entries → verdict_of (shapes_of nodes) entries ≡ verdicts.Safe → NoneFails prog task.entry task.bound

-- where a sound book's verdict is Bug, the node that it names was found
abbrev pub BugBooksHaveRuns : Type 0
BugBooksHaveRuns =
    (task : Task) (nodes : List Leaf) (entries : List Entry) (node : ℕ) → IsSound task nodes entries → verdict_of (shapes_of nodes) entries ≡ verdicts.Bug node → (run : List RunNode) × HasFound nodes node run

-- the run of a found node fails, and so does the machine on its choices
abbrev pub FoundRunsFail : Type 0
FoundRunsFail =
    (prog : Program) (task : Task) (nodes : List Leaf) (entries : List Entry) (node : ℕ) (run : List RunNode) → IsBookOf prog task nodes entries → task.entry < length prog.procs → HasFound nodes node run
    → FailsAs prog task (run_of run)

-- ---- what is read off a book

-- the choices of the found run that the verdict names, on which the machine fails in this assert
pub record IsFailing (prog : Program) (book : Ledger) (choices : List Choice) (proc number : ℕ) : Type 0 where
  pub node : ℕ
  pub verdict : verdict_of (shapes_of book.nodes) book.entries ≡ verdicts.Bug node
  pub run : List RunNode
  pub found : HasFound book.nodes node run
  pub are : choices ≡ choices_of prog book.task.flat book.task.entry (run_of run)
  pub fails : HasStatus prog book.task.entry book.task.bound choices (Failed proc number)

-- the verdict of the book, in the words of the program
abbrev pub Judges : Program → Ledger → Judgement → Type 0
Judges prog book (Bug choices proc number) = IsFailing prog book choices proc number
Judges prog book Safe = (verdict_of (shapes_of book.nodes) book.entries ≡ verdicts.Safe) × NoneFails prog book.task.entry book.task.bound
Judges prog book Unfinished = verdict_of (shapes_of book.nodes) book.entries ≡ verdicts.Unfinished

-- ---- steps

-- the run failed
abbrev pub IsFailed : Status → Type 0
IsFailed Going = ⊥
IsFailed Ended = ⊥
IsFailed (Failed proc assert) = Unit {0}
IsFailed Blocked = ⊥
IsFailed Cut = ⊥
IsFailed (BadChoice index) = ⊥

-- the node was found
abbrev pub IsFoundStatus : Status2 → Type 0
IsFoundStatus Live = ⊥
IsFoundStatus (Closed proof) = ⊥
IsFoundStatus (Found run) = Unit {0}
IsFoundStatus (Split site) = ⊥
