-- Where runs stand: after each list of choices in exactly one place.
use Rattle.std.specs.Prelude.{◌≡◌, ◌<◌, ℕ, List, [], ◌∷◌, ◌++◌, length, take, IsTrue}
use Rattle.src_prog.specs.Program.{Program}
use Rattle.src_prog.specs.Shape.{is_program}
use Rattle.src_run.specs.declared.machine.Choice.{Choice}
use Rattle.src_run.specs.declared.machine.Status.{Status}
use Rattle.src_run.specs.declared.machine.Status.TheVariants.{Going, Ended, Failed, Blocked, Cut, BadChoice}
use Rattle.src_run.specs.Machine.{HasStatus}

-- the run of an entry on a list of choices has at most one status
abbrev pub StatusesAreUnique : Type 0
StatusesAreUnique = (prog : Program) (entry bound : ℕ) (choices : List Choice) (one other : Status) → HasStatus prog entry bound choices one → HasStatus prog entry bound choices other → one ≡ other

-- the run of an entry of a program on a list of choices has a status, whatever the bound
abbrev pub EachListHasAStatus : Type 0
EachListHasAStatus = (prog : Program) → IsTrue (is_program prog) → (entry bound : ℕ) (choices : List Choice) → (status : Status) × HasStatus prog entry bound choices status

-- ---- bad choices

-- the run is over after the choices, and each of them was taken
abbrev pub IsEnd : Status → Type 0
IsEnd Going = ⊥
IsEnd Ended = Unit {0}
IsEnd (Failed proc assert) = Unit {0}
IsEnd Blocked = Unit {0}
IsEnd Cut = Unit {0}
IsEnd (BadChoice index) = ⊥

-- each of the choices was taken
abbrev pub AreTaken : Status → Type 0
AreTaken Going = Unit {0}
AreTaken Ended = Unit {0}
AreTaken (Failed proc assert) = Unit {0}
AreTaken Blocked = Unit {0}
AreTaken Cut = Unit {0}
AreTaken (BadChoice index) = ⊥

-- Behind the end of a run the next choice is bad. A bad choice stays one, whatever comes behind it; it is one of the list, and those before it were taken.
pub record BadChoicesAreFirst : Type 0 where
  pub behind : (prog : Program) (entry bound : ℕ) (choices : List Choice) (status : Status) → IsEnd status → HasStatus prog entry bound choices status
      → (next : Choice) (more : List Choice) → HasStatus prog entry bound (choices ++ next ∷ more) (BadChoice (length choices))
  pub stays : (prog : Program) (entry bound index : ℕ) (choices more : List Choice) → HasStatus prog entry bound choices (BadChoice index) → HasStatus prog entry bound (choices ++ more) (BadChoice index)
  pub first : (prog : Program) (entry bound index : ℕ) (choices : List Choice) → HasStatus prog entry bound choices (BadChoice index)
      → (index < length choices) × (status : Status) × AreTaken status × HasStatus prog entry bound (take index choices) status

-- ---- what is asked for

-- where the run of an entry of a program asks, some choice that comes next is taken
abbrev pub EachAskCanBeMet : Type 0
EachAskCanBeMet =
    (prog : Program) → IsTrue (is_program prog) → (entry bound : ℕ) (choices : List Choice) → HasStatus prog entry bound choices Going
    → (next : Choice) × (status : Status) × AreTaken status × HasStatus prog entry bound (choices ++ next ∷ []) status
