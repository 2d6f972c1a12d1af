-- What taking a choice does. No public clause cites it.
use Rattle.std.specs.Prelude.{◌≡◌, ℕ, Bool, true, false, List, [], ◌∷◌, ◌++◌, Option, None, Some, IsTrue}
use Rattle.std.specs.List.{list_all}
use Rattle.hy_val.specs.Exprs.{reads}
use Rattle.hy_val.specs.declared.expr.Env.{Env}
use Rattle.hy_val.specs.declared.value.Value.{Value}
use Rattle.src_prog.specs.Program.{Program}
use Rattle.src_run.specs.declared.choosing.Taken.{Taken}
use Rattle.src_run.specs.declared.choosing.Taken.TheVariants.{Const, Global, Local, Variable, To}
use Rattle.src_run.specs.declared.machine.Choice.{Choice}
use Rattle.src_run.specs.declared.machine.Status.TheVariants.{Blocked}
use Rattle.src_run.specs.Machine.{Config, Frame, Want, AConst, AGlobal, ALocal, AVariable, ATarget, with_status, bad, tested, with_local, with_variable, jump, take_choice}

-- an environment of constants alone
abbrev pub constants : List Value → Env
constants consts = record { consts = consts; globals = []; locals = [] }

-- the value of a constant is asked for
abbrev pub is_const : Want → Bool
is_const (AConst sort) = true
is_const (AGlobal sort) = false
is_const (ALocal sort) = false
is_const (AVariable x sort) = false
is_const (ATarget targets) = false

abbrev pub asks_const : List Want → Bool
asks_const [] = false
asks_const (w ∷ ws) = is_const w

-- behind the last constant the axioms can be evaluated
abbrev pub CanTest : Program → Config → Type 0
CanTest prog c = asks_const c.wants ≡ false → IsTrue (list_all (reads (constants c.consts)) prog.axioms)

-- so they can behind this choice
abbrev pub CanTake : Program → (bound index : ℕ) → Config → Choice → Type 0
CanTake prog bound index c choice = (want : Want) (rest : List Want) → c.wants ≡ want ∷ rest → CanTest prog (take_choice prog bound c index want rest choice)

abbrev pub gone : Program → ℕ → Config → ℕ → List Frame → Config
gone prog bound c to [] = with_status c Blocked
gone prog bound c to (f ∷ rest) = jump prog bound c f rest to

-- the configuration behind what was taken, where these are asked for next
abbrev pub took : Program → ℕ → Config → List Want → Taken → Config
took prog bound c wants (Const v) = tested prog (record c { consts = c.consts ++ v ∷ []; wants = wants }) wants
took prog bound c wants (Global v) = record c { globals = c.globals ++ v ∷ []; wants = wants }
took prog bound c wants (Local v) = record c { wants = wants; frames = with_local v c.frames }
took prog bound c wants (Variable x v) = with_variable (record c { wants = wants }) x v c.frames
took prog bound c wants (To to) = gone prog bound c to c.frames

abbrev pub took_or_bad : Program → (bound index : ℕ) → Config → List Want → Option Taken → Config
took_or_bad prog bound index c wants None = bad index c
took_or_bad prog bound index c wants (Some taken) = took prog bound c wants taken

-- this is taken, whatever the run, where the want comes first
abbrev pub TakenFor : Want → Choice → Option Taken → Type 0
TakenFor want choice taken = (prog : Program) (bound index : ℕ) (c : Config) (wants : List Want) → take_choice prog bound c index want wants choice ≡ took_or_bad prog bound index c wants taken

abbrev pub CanAccept : Program → Config → List Want → Taken → Type 0
CanAccept prog c wants (Const v) = CanTest prog (record c { consts = c.consts ++ v ∷ []; wants = wants })
CanAccept prog c wants (Global v) = Unit {0}
CanAccept prog c wants (Local v) = Unit {0}
CanAccept prog c wants (Variable x v) = Unit {0}
CanAccept prog c wants (To to) = Unit {0}
