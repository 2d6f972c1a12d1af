-- The machine on a list of choices (This is Boogie 2, commands and their runs; the choices and the bound are this project's own).
-- A configuration is a status, the constants' and globals' values, what is still asked for, and the open frames, innermost first. One choice is
-- taken at a time, and then the run goes on by single steps until a choice is asked for or it is over.
use Rattle.std.specs.Prelude.{◌≡◌, ℕ, zero, suc, ◌+◌, nat_eq, nat_lt, Bool, ◌&&◌, List, [], ◌∷◌, ◌++◌, map, length, take, drop, filter, slice_get, Option, None, Some, if◌then◌else◌}
use Rattle.std.specs.List.{list_all}
use Rattle.hy_val.specs.Exprs.{eval}
use Rattle.hy_val.specs.Scope.{sort_of_target}
use Rattle.hy_val.specs.Stores.{Store, holds, write, write_all, all_differ}
use Rattle.hy_val.specs.Values.{has_sort}
use Rattle.hy_val.specs.declared.expr.Env.{Env}
use Rattle.hy_val.specs.declared.expr.ExprNode.{ExprNode}
use Rattle.hy_val.specs.declared.expr.Var.{Var}
use Rattle.hy_val.specs.declared.sort.Sort.{Sort}
use Rattle.hy_val.specs.declared.value.Value.{Value}
use Rattle.src_prog.specs.Program.{Program}
use Rattle.src_prog.specs.Scope.{sorts_of, locals_of}
use Rattle.src_prog.specs.Shape.{scope_of}
use Rattle.src_prog.specs.declared.block.Cmd.{Cmd}
use Rattle.src_prog.specs.declared.block.Cmd.TheVariants.{Assign, Havoc, Assume, Assert, Call}
use Rattle.src_prog.specs.declared.block.Next.{Next}
use Rattle.src_prog.specs.declared.block.Next.TheVariants.{Goto, Return}
use Rattle.src_prog.specs.declared.block.SrcBlock.{SrcBlock}
use Rattle.src_prog.specs.declared.proc.SrcLoop.{SrcLoop}
use Rattle.src_prog.specs.declared.proc.SrcProc.{SrcProc}
use Rattle.src_run.specs.declared.machine.Choice.{Choice}
use Rattle.src_run.specs.declared.machine.Choice.TheVariants.{Go, Val}
use Rattle.src_run.specs.declared.machine.Status.{Status}
use Rattle.src_run.specs.declared.machine.Status.TheVariants.{Going, Ended, Failed, Blocked, Cut, BadChoice}

-- ---- configurations

-- what is asked for: the value of the next constant, global or local of the innermost frame, a new value for a variable, or one of some targets
pub data Want : Type 0 where
  AConst : (sort : Sort) → Want
  AGlobal : (sort : Sort) → Want
  ALocal : (sort : Sort) → Want
  AVariable : (x : Var) → (sort : Option Sort) → Want
  ATarget : (targets : List ℕ) → Want

-- a loop that is open in a frame: its head, its exit, and the back edges taken since it was entered
pub record Lap : Type 0 where
  pub head : ℕ
  pub exit : ℕ
  pub count : ℕ

-- An open procedure: its number, the block and the position of its next command, the values of its locals, its open loops, innermost first, and the
-- variables of its caller that take its outs.
pub record Frame : Type 0 where
  pub proc : ℕ
  pub block : ℕ
  pub at : ℕ
  pub locals : List Value
  pub laps : List Lap
  pub outs : List Var

pub record Config : Type 0 where
  pub status : Status
  pub consts : List Value
  pub globals : List Value
  pub wants : List Want
  pub frames : List Frame

abbrev pub with_status : Config → Status → Config
with_status c status = record c { status = status }

abbrev pub env_of : Config → Frame → Env
env_of c f = record { consts = c.consts; globals = c.globals; locals = f.locals }

-- ---- variables

abbrev pub store_of : Config → Frame → Store
store_of c f = record { globals = c.globals; locals = f.locals }

-- the innermost frame with these values of the variables
abbrev pub put : Config → Frame → List Frame → Store → Config
put c f rest s = record c { globals = s.globals; frames = record f { locals = s.locals } ∷ rest }

-- the next command is one further
abbrev pub further : Frame → Frame
further f = record f { at = f.at + 1 }

-- ---- commands

-- a local is asked for per sort, in order
abbrev pub locals_wanted : List Sort → List Want
locals_wanted sorts = map ALocal sorts

-- how many frames of the procedure are open
abbrev pub open_count : ℕ → List Frame → ℕ
open_count proc frames = length (filter (λ (f : Frame). nat_eq f.proc proc) frames)

-- A call opens a frame, whose outs and locals are asked for. A run that has so many frames of the procedure open as the bound allows is cut.
abbrev pub call : ℕ → Config → Frame → List Frame → ℕ → Option SrcProc → List (List ExprNode) → List Var → Config
call bound c f rest number None args outs = with_status c Blocked
call bound c f rest number (Some proc) args outs =
    if nat_lt (open_count number (f ∷ rest)) bound
    then record c {
      wants = locals_wanted (sorts_of proc.outs ++ sorts_of proc.locals);
      frames = record { proc = number; block = 0; at = 0; locals = map (eval (env_of c f)) args; laps = []; outs = outs } ∷ further f ∷ rest;
    }
    else with_status c Cut

abbrev pub command : Program → ℕ → Config → SrcProc → Frame → List Frame → Cmd → Config
command prog bound c proc f rest (Assign pairs) = put c (further f) rest (write_all (store_of c f) (map (λ p. p.0) pairs) (map (λ p. eval (env_of c f) p.1) pairs))
command prog bound c proc f rest (Havoc xs) = record c { wants = map (λ x. AVariable x (sort_of_target (scope_of prog proc) x)) xs; frames = further f ∷ rest }
command prog bound c proc f rest (Assume expr) = if holds (env_of c f) expr then record c { frames = further f ∷ rest } else with_status c Blocked
command prog bound c proc f rest (Assert number expr) = if holds (env_of c f) expr then record c { frames = further f ∷ rest } else with_status c (Failed f.proc number)
command prog bound c proc f rest (Call number args outs) = call bound c f rest number (slice_get prog.procs number) args outs

-- ---- edges and loops

-- where an edge leads, seen from the innermost open loop, if there is one: to its head again, into a loop inside, to a block in the same loops, or out
pub data Way : Type 0 where
  Again : Way
  Enter : (exit : ℕ) → Way
  Stay : Way
  Out : Way

abbrev pub entry_of : List SrcLoop → ℕ → Way
entry_of [] to = Stay
entry_of (l ∷ ls) to = if nat_eq l.head to then Enter l.exit else entry_of ls to

abbrev pub way : List SrcLoop → Lap → ℕ → Way
way loops lap to = if nat_eq lap.head to then Again else if nat_lt lap.head to && nat_lt to lap.exit then entry_of loops to else Out

-- the innermost frame at the begin of a block, with these open loops
abbrev pub land : Config → Frame → List Frame → ℕ → List Lap → Config
land c f rest to laps = record c { wants = []; frames = record f { block = to; at = 0; laps = laps } ∷ rest }

abbrev pub land_outside : Config → Frame → List Frame → ℕ → Way → Config
land_outside c f rest to (Enter exit) = land c f rest to (record { head = to; exit = exit; count = 0 } ∷ [])
land_outside c f rest to Again = land c f rest to []
land_outside c f rest to Stay = land c f rest to []
land_outside c f rest to Out = land c f rest to []

-- a back edge is counted, and one above the bound cuts the run
abbrev pub land_inside : ℕ → Config → Frame → List Frame → ℕ → Lap → List Lap → Way → Config → Config
land_inside bound c f rest to lap laps Again out = if nat_lt lap.count bound then land c f rest to (record lap { count = lap.count + 1 } ∷ laps) else with_status c Cut
land_inside bound c f rest to lap laps (Enter exit) out = land c f rest to (record { head = to; exit = exit; count = 0 } ∷ lap ∷ laps)
land_inside bound c f rest to lap laps Stay out = land c f rest to (lap ∷ laps)
land_inside bound c f rest to lap laps Out out = out

-- An edge to a block closes the loops that do not hold it; their counts begin anew when they are entered again.
abbrev pub arrive : List SrcLoop → ℕ → Config → Frame → List Frame → ℕ → List Lap → Config
arrive loops bound c f rest to [] = land_outside c f rest to (entry_of loops to)
arrive loops bound c f rest to (lap ∷ laps) = land_inside bound c f rest to lap laps (way loops lap to) (arrive loops bound c f rest to laps)

abbrev pub loops_of : Option SrcProc → List SrcLoop
loops_of None = []
loops_of (Some proc) = proc.loops

abbrev pub jump : Program → ℕ → Config → Frame → List Frame → ℕ → Config
jump prog bound c f rest to = arrive (loops_of (slice_get prog.procs f.proc)) bound c f rest to f.laps

-- ---- the ends of blocks

-- the values of the outs, which stand behind those of the ins
abbrev pub outs_of : SrcProc → List Value → List Value
outs_of proc locals = take (length proc.outs) (drop (length proc.ins) locals)

-- the innermost procedure has returned these: the run of the entry is over; any other goes on in its caller, whose variables take the outs
abbrev pub leave : Config → List Var → List Value → List Frame → Config
leave c outs values [] = record c { status = Ended; frames = [] }
leave c outs values (caller ∷ rest) = put c caller rest (write_all (store_of c caller) outs values)

-- a goto with one target takes no choice
abbrev pub follow : Program → ℕ → Config → SrcProc → Frame → List Frame → Next → Config
follow prog bound c proc f rest Return = leave c f.outs (outs_of proc f.locals) rest
follow prog bound c proc f rest (Goto []) = with_status c Blocked
follow prog bound c proc f rest (Goto (to ∷ [])) = jump prog bound c f rest to
follow prog bound c proc f rest (Goto (to ∷ other ∷ targets)) = record c { wants = ATarget (to ∷ other ∷ targets) ∷ [] }

-- ---- one step

abbrev pub at_command : Program → ℕ → Config → SrcProc → Frame → List Frame → SrcBlock → Option Cmd → Config
at_command prog bound c proc f rest block None = follow prog bound c proc f rest block.next
at_command prog bound c proc f rest block (Some cmd) = command prog bound c proc f rest cmd

abbrev pub at_block : Program → ℕ → Config → SrcProc → Frame → List Frame → Option SrcBlock → Config
at_block prog bound c proc f rest None = with_status c Blocked
at_block prog bound c proc f rest (Some block) = at_command prog bound c proc f rest block (slice_get block.cmds f.at)

abbrev pub at_proc : Program → ℕ → Config → Frame → List Frame → Option SrcProc → Config
at_proc prog bound c f rest None = with_status c Blocked
at_proc prog bound c f rest (Some proc) = at_block prog bound c proc f rest (slice_get proc.blocks f.block)

abbrev pub at_frames : Program → ℕ → Config → List Frame → Config
at_frames prog bound c [] = with_status c Blocked
at_frames prog bound c (f ∷ rest) = at_proc prog bound c f rest (slice_get prog.procs f.proc)

-- the next command, or the end of the block
abbrev pub tick : Program → ℕ → Config → Config
tick prog bound c = at_frames prog bound c c.frames

-- ---- one choice

-- unique constants differ, and the axioms are true
abbrev pub are_allowed : Program → List Value → Bool
are_allowed prog consts = all_differ consts prog.uniques && list_all (holds (record { consts = consts; globals = []; locals = [] })) prog.axioms

-- Behind the last constant the run is blocked where the constants are not allowed.
abbrev pub tested : Program → Config → List Want → Config
tested prog c (AConst sort ∷ wants) = c
tested prog c wants = if are_allowed prog c.consts then c else with_status c Blocked

abbrev pub bad : ℕ → Config → Config
bad index c = with_status c (BadChoice index)

-- one local more in the innermost frame
abbrev pub with_local : Value → List Frame → List Frame
with_local v [] = []
with_local v (f ∷ rest) = record f { locals = f.locals ++ v ∷ [] } ∷ rest

-- a new value of a variable that the innermost frame sees
abbrev pub with_variable : Config → Var → Value → List Frame → Config
with_variable c x v [] = with_status c Blocked
with_variable c x v (f ∷ rest) = put c f rest (write (store_of c f) x v)

abbrev pub go_to : Program → ℕ → Config → ℕ → List Frame → Option ℕ → Config
go_to prog bound c index frames None = bad index c
go_to prog bound c index [] (Some to) = with_status c Blocked
go_to prog bound c index (f ∷ rest) (Some to) = jump prog bound c f rest to

-- The choice at this index is taken where it is what is asked for: a value of the sort, or the place of one of the targets.
abbrev pub take_choice : Program → ℕ → Config → ℕ → Want → List Want → Choice → Config
take_choice prog bound c index (AConst sort) wants (Val v) = if has_sort v sort then tested prog (record c { consts = c.consts ++ v ∷ []; wants = wants }) wants else bad index c
take_choice prog bound c index (AGlobal sort) wants (Val v) = if has_sort v sort then record c { globals = c.globals ++ v ∷ []; wants = wants } else bad index c
take_choice prog bound c index (ALocal sort) wants (Val v) = if has_sort v sort then record c { wants = wants; frames = with_local v c.frames } else bad index c
take_choice prog bound c index (AVariable x None) wants (Val v) = bad index c
take_choice prog bound c index (AVariable x (Some sort)) wants (Val v) = if has_sort v sort then with_variable (record c { wants = wants }) x v c.frames else bad index c
take_choice prog bound c index (ATarget targets) wants (Val v) = bad index c
take_choice prog bound c index (AConst sort) wants (Go place) = bad index c
take_choice prog bound c index (AGlobal sort) wants (Go place) = bad index c
take_choice prog bound c index (ALocal sort) wants (Go place) = bad index c
take_choice prog bound c index (AVariable x sort) wants (Go place) = bad index c
take_choice prog bound c index (ATarget targets) wants (Go place) = go_to prog bound c index c.frames (slice_get targets place)

-- ---- runs

-- the entry is open at its first command, in no loop; its locals are asked for behind the constants and the globals
abbrev pub first_frame : ℕ → Frame
first_frame entry = record { proc = entry; block = 0; at = 0; locals = []; laps = []; outs = [] }

abbrev pub wants_of : Program → SrcProc → List Want
wants_of prog proc = map AConst (sorts_of prog.consts) ++ (map AGlobal (sorts_of prog.globals) ++ locals_wanted (locals_of proc))

abbrev pub begin_in : Program → ℕ → Option SrcProc → Config
begin_in prog entry None = record { status = Blocked; consts = []; globals = []; wants = []; frames = [] }
begin_in prog entry (Some proc) = tested prog (record { status = Going; consts = []; globals = []; wants = wants_of prog proc; frames = first_frame entry ∷ [] }) (wants_of prog proc)

abbrev pub begin : Program → ℕ → Config
begin prog entry = begin_in prog entry (slice_get prog.procs entry)

-- what comes next, where the next choice has this index: the run stands, or it goes on
pub data Turn : Type 0 where
  Stands : Config → Turn
  GoesOn : (index : ℕ) → Config → List Choice → Turn

-- a choice after the run's end is a bad one
abbrev pub over : ℕ → Config → List Choice → Turn
over index c [] = Stands c
over index c (choice ∷ choices) = Stands (bad index c)

abbrev pub going : Program → ℕ → ℕ → Config → List Want → List Choice → Turn
going prog bound index c [] choices = GoesOn index (tick prog bound c) choices
going prog bound index c (want ∷ wants) [] = Stands c
going prog bound index c (want ∷ wants) (choice ∷ choices) = GoesOn (index + 1) (take_choice prog bound c index want wants choice) choices

abbrev pub turn : Program → ℕ → ℕ → Config → Status → List Choice → Turn
turn prog bound index c Going choices = going prog bound index c c.wants choices
turn prog bound index c Ended choices = over index c choices
turn prog bound index c (Failed proc number) choices = over index c choices
turn prog bound index c Blocked choices = over index c choices
turn prog bound index c Cut choices = over index c choices
turn prog bound index c (BadChoice first) choices = Stands c

abbrev pub after : (ℕ → Config → List Choice → Option Config) → Turn → Option Config
after go (Stands c) = Some c
after go (GoesOn index c choices) = go index c choices

-- where the run stands after all choices, or None where so many turns do not suffice
abbrev pub within : ℕ → Program → ℕ → ℕ → Config → List Choice → Option Config
within zero prog bound index c choices = None
within (suc turns) prog bound index c choices = after (λ i d xs. within turns prog bound i d xs) (turn prog bound index c c.status choices)

-- in some number of turns the run comes to stand with this status
pub record Comes (prog : Program) (bound index : ℕ) (c : Config) (choices : List Choice) (status : Status) : Type 0 where
  pub turns : ℕ
  pub last : Config
  pub runs : within turns prog bound index c choices ≡ Some last
  pub is : last.status ≡ status

-- the status of the entry's run after all choices
abbrev pub HasStatus : Program → (entry bound : ℕ) → List Choice → Status → Type 0
HasStatus prog entry bound choices status = Comes prog bound 0 (begin prog entry) choices status

-- the run on these choices fails
abbrev pub Fails : Program → (entry bound : ℕ) → List Choice → Type 0
Fails prog entry bound choices = (proc : ℕ) × (assert : ℕ) × HasStatus prog entry bound choices (Failed proc assert)

-- no run of the entry fails
abbrev pub NoneFails : Program → (entry bound : ℕ) → Type 0
NoneFails prog entry bound = (choices : List Choice) → Fails prog entry bound choices → ⊥
