-- How a replay goes. No public clause cites it.
use Rattle.std.specs.Prelude.{◌≡◌, ◌≤◌, ℕ, Bool, true, false, if◌then◌else◌, List, [], ◌∷◌, drop, length}
use Rattle.src_prog.specs.Program.{Program}
use Rattle.src_prog.specs.declared.proc.SrcProc.{SrcProc}
use Rattle.src_run.specs.declared.machine.Choice.{Choice}
use Rattle.src_run.specs.declared.machine.Status.{Status}
use Rattle.src_run.specs.declared.machine.Status.TheVariants.{Going, Ended, Failed, Blocked, Cut, BadChoice}
use Rattle.src_run.specs.declared.replaying.Begun.{Begun}
use Rattle.src_run.specs.declared.replaying.Begun.TheVariants.{Going as BegunGoing, Over as BegunOver}
use Rattle.src_run.specs.declared.replaying.Onward.{Onward}
use Rattle.src_run.specs.declared.replaying.Onward.TheVariants.{On as OnwardOn, Over as OnwardOver}
use Rattle.src_run.specs.declared.state.Step.{Step}
use Rattle.src_run.specs.declared.state.Step.TheVariants.{On, Over}
use Rattle.src_run.specs.Machine.{Config, Stands, GoesOn, turn, begin, first_frame, wants_of}
use Rattle.src_run.specs.Sorted.{AreSorted}
use Rattle.src_run.specs.State.{IsOver, config_of}

-- the entry at its first command, before any choice and any test
abbrev pub first : Program → ℕ → SrcProc → Config
first prog entry proc = record { status = Going; consts = []; globals = []; wants = wants_of prog proc; frames = first_frame entry ∷ [] }

abbrev pub is_bad : Status → Bool
is_bad Going = false
is_bad Ended = false
is_bad (Failed proc number) = false
is_bad Blocked = false
is_bad Cut = false
is_bad (BadChoice index) = true

-- a choice that is left is a bad one
abbrev pub left_over : Status → ℕ → List Choice → Status
left_over status index [] = status
left_over status index (choice ∷ choices) = BadChoice index

-- the status of a run that is over, with these choices left
abbrev pub ending : Status → ℕ → List Choice → Status
ending status index choices = if is_bad status then status else left_over status index choices

-- where the next choice has this index
abbrev pub behind : Step → ℕ → List Choice → Onward
behind On index choices = OnwardOn index
behind (Over status) index choices = OnwardOver (ending status index (drop index choices))

abbrev pub IsStep : Step → Type 0
IsStep On = Unit {0}
IsStep (Over status) = IsOver status

-- the entry's run begins so
abbrev pub BeginsAs : Program → ℕ → Begun → Type 0
BeginsAs prog entry (BegunGoing s) = (config_of s ≡ begin prog entry) × AreSorted prog (config_of s)
BeginsAs prog entry (BegunOver status) = ((begin prog entry).status ≡ status) × IsOver status

-- the run stands with this status, behind no turn or one
pub data Finishes (prog : Program) (bound index : ℕ) (c : Config) (choices : List Choice) (status : Status) : Type 0 where
  Asks : turn prog bound index c c.status choices ≡ Stands c → c.status ≡ status → Finishes prog bound index c choices status
  Ends : (next : ℕ) (d : Config) (left : List Choice) (s : Status) → turn prog bound index c c.status choices ≡ GoesOn next d left → d.status ≡ s → IsOver s → status ≡ ending s next left → Finishes prog bound index c choices status

-- a turn leads on to this configuration, or the run comes to stand
abbrev pub TurnsTo : Program → (bound index : ℕ) → List Choice → Config → Config → Onward → Type 0
TurnsTo prog bound index choices old new (OnwardOn next) =
    (turn prog bound index old old.status (drop index choices) ≡ GoesOn next new (drop next choices)) × (next ≤ length choices) × AreSorted prog new
TurnsTo prog bound index choices old new (OnwardOver status) = Finishes prog bound index old (drop index choices) status
