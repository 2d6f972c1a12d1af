-- The names of the variables that take the choices of a run (This is Boogie 2; the choices are this project's own).
use Rattle.std.specs.Prelude.{◌≡◌, ℕ, zero, suc, List, [], ◌∷◌, ◌++◌, length, slice_get, Option, None, Some, option_map}
use Rattle.hy_val.specs.declared.expr.Var.{Var}
use Rattle.hy_val.specs.declared.expr.Var.TheVariants.{Const, Global, Local}
use Rattle.src_prog.specs.Program.{Program}
use Rattle.src_prog.specs.declared.proc.Named.{Named}
use Rattle.src_prog.specs.declared.proc.SrcProc.{SrcProc}
use Rattle.src_run.specs.declared.machine.Choice.{Choice}
use Rattle.src_run.specs.declared.machine.Status.{Status}
use Rattle.src_run.specs.declared.machine.Status.TheVariants.{Going, Ended, Failed, Blocked, Cut, BadChoice}
use Rattle.src_run.specs.Machine.{Config, Frame, Want, AConst, AGlobal, ALocal, AVariable, ATarget, Turn, Stands, GoesOn, turn, begin}

-- the bytes of a name, or None where there is none
abbrev pub Name : Type 0
Name = Option (List ℕ)

abbrev pub name_at : List Named → ℕ → Name
name_at names n = option_map (λ (name : Named). name.name) (slice_get names n)

-- the ins, the outs and the other locals of a procedure, in this order
abbrev pub local_names : Option SrcProc → List Named
local_names None = []
local_names (Some proc) = proc.ins ++ (proc.outs ++ proc.locals)

-- a local of the innermost frame
abbrev pub local_name : Program → List Frame → ℕ → Name
local_name prog [] n = None
local_name prog (f ∷ rest) n = name_at (local_names (slice_get prog.procs f.proc)) n

abbrev pub variable_name : Program → List Frame → Var → Name
variable_name prog frames (Const n) = name_at prog.consts n
variable_name prog frames (Global n) = name_at prog.globals n
variable_name prog frames (Local n) = local_name prog frames n

abbrev pub locals_given : List Frame → ℕ
locals_given [] = 0
locals_given (f ∷ rest) = length f.locals

-- the variable that takes what is asked for; a target has none
abbrev pub name_of : Program → Config → Want → Name
name_of prog c (AConst sort) = name_at prog.consts (length c.consts)
name_of prog c (AGlobal sort) = name_at prog.globals (length c.globals)
name_of prog c (ALocal sort) = local_name prog c.frames (locals_given c.frames)
name_of prog c (AVariable x sort) = variable_name prog c.frames x
name_of prog c (ATarget targets) = None

-- the names of a turn: that of the choice that it takes, if it takes one
abbrev pub names_asked : Program → Config → List Want → List Choice → List Name
names_asked prog c [] choices = []
names_asked prog c (want ∷ wants) [] = []
names_asked prog c (want ∷ wants) (choice ∷ choices) = name_of prog c want ∷ []

abbrev pub turn_names : Program → Config → Status → List Choice → List Name
turn_names prog c Going choices = names_asked prog c c.wants choices
turn_names prog c Ended choices = []
turn_names prog c (Failed proc number) choices = []
turn_names prog c Blocked choices = []
turn_names prog c Cut choices = []
turn_names prog c (BadChoice index) choices = []

abbrev pub names_behind : List Name → (ℕ → Config → List Choice → Option (List Name)) → Turn → Option (List Name)
names_behind names go (Stands c) = Some names
names_behind names go (GoesOn index c choices) = option_map (λ more. names ++ more) (go index c choices)

-- the names of all turns until the run stands, or None where so many turns do not suffice
abbrev pub names_within : ℕ → Program → ℕ → ℕ → Config → List Choice → Option (List Name)
names_within zero prog bound index c choices = None
names_within (suc turns) prog bound index c choices = names_behind (turn_names prog c c.status choices) (λ i d xs. names_within turns prog bound i d xs) (turn prog bound index c c.status choices)

-- in some number of turns the run comes to stand, and these are the names
pub record NamesCome (prog : Program) (bound index : ℕ) (c : Config) (choices : List Choice) (names : List Name) : Type 0 where
  pub turns : ℕ
  pub are : names_within turns prog bound index c choices ≡ Some names

-- the names of the variables that take the choices of the entry's run
abbrev pub HasNames : Program → (entry bound : ℕ) → List Choice → List Name → Type 0
HasNames prog entry bound choices names = NamesCome prog bound 0 (begin prog entry) choices names
