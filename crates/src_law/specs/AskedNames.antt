-- The names of the variables that take the choices of a run: one list of them, and each choice is one of what it is asked for.
use Rattle.std.specs.Prelude.{◌≡◌, ◌⊎◌, ℕ, List, [], ◌∷◌, slice_get, None, Some, IsTrue}
use Rattle.hy_val.specs.NodeSorts.{is_sort}
use Rattle.hy_val.specs.Values.{has_sort}
use Rattle.src_prog.specs.Program.{Program}
use Rattle.src_prog.specs.Shape.{is_program}
use Rattle.src_prog.specs.declared.proc.Named.{Named}
use Rattle.src_run.specs.declared.machine.Choice.{Choice}
use Rattle.src_run.specs.declared.machine.Choice.TheVariants.{Go, Val}
use Rattle.src_run.specs.declared.machine.Status.{Status}
use Rattle.src_run.specs.Machine.{HasStatus}
use Rattle.src_run.specs.Names.{HasNames, Name, local_names}
use Rattle.src_law.specs.Statuses.{AreTaken}

-- the run of an entry on a list of choices has at most one list of names
abbrev pub NamesAreUnique : Type 0
NamesAreUnique = (prog : Program) (entry bound : ℕ) (choices : List Choice) (one other : List Name) → HasNames prog entry bound choices one → HasNames prog entry bound choices other → one ≡ other

-- the program declares the variable: as a constant, as a global, or as a local of a procedure
abbrev pub IsConst : Program → Named → Type 0
IsConst prog variable = (n : ℕ) × (slice_get prog.consts n ≡ Some variable)

abbrev pub IsGlobal : Program → Named → Type 0
IsGlobal prog variable = (n : ℕ) × (slice_get prog.globals n ≡ Some variable)

abbrev pub IsLocal : Program → Named → Type 0
IsLocal prog variable = (proc : ℕ) × (n : ℕ) × (slice_get (local_names (slice_get prog.procs proc)) n ≡ Some variable)

abbrev pub Declares : Program → Named → Type 0
Declares prog variable = IsConst prog variable ⊎ (IsGlobal prog variable ⊎ IsLocal prog variable)

-- a value is taken by the variable of the name, whose sort it has, and a target by none
abbrev pub IsTakenBy : Program → Choice → Name → Type 0
IsTakenBy prog (Go place) None = Unit {0}
IsTakenBy prog (Go place) (Some name) = ⊥
IsTakenBy prog (Val value) None = ⊥
IsTakenBy prog (Val value) (Some name) = (variable : Named) × Declares prog variable × (variable.name ≡ name) × IsTrue (is_sort variable.sort) × IsTrue (has_sort value variable.sort)

-- as many names as choices, each that of what takes the choice
abbrev pub AreTakenBy : Program → List Choice → List Name → Type 0
AreTakenBy prog [] [] = Unit {0}
AreTakenBy prog [] (name ∷ names) = ⊥
AreTakenBy prog (choice ∷ choices) [] = ⊥
AreTakenBy prog (choice ∷ choices) (name ∷ names) = IsTakenBy prog choice name × AreTakenBy prog choices names

-- so it is of a run of a program whose choices were all taken
abbrev pub NamesAreOfChoices : Type 0
NamesAreOfChoices =
    (prog : Program) → IsTrue (is_program prog) → (entry bound : ℕ) (choices : List Choice) (status : Status) (names : List Name) → AreTaken status → HasStatus prog entry bound choices status → HasNames prog entry bound choices names
    → AreTakenBy prog choices names
