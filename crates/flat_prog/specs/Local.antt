-- A run of one flat procedure (This is Boogie 2, commands and their runs), where the results of the calls that it passes
-- are given: what the callee of each call is asked for, and how the run is over.
use Rattle.std.specs.Prelude.{◌≡◌, ℕ, Bool, true, ◌&&◌, List, [], ◌∷◌, ◌++◌, map, length, take, drop, slice_get, Option, None, Some, if◌then◌else◌}
use Rattle.std.specs.Option.{option_and_then}
use Rattle.hy_val.specs.Exprs.{eval}
use Rattle.hy_val.specs.Values.{has_sort, zero_of}
use Rattle.hy_val.specs.declared.atom.AtomKind.TheVariants.{Bv as BvAtom}
use Rattle.hy_val.specs.declared.expr.ExprNode.{ExprNode}
use Rattle.hy_val.specs.declared.expr.Var.{Var}
use Rattle.hy_val.specs.declared.sort.Sort.{Sort}
use Rattle.hy_val.specs.declared.value.Value.{Value}
use Rattle.hy_val.specs.declared.value.Value.TheVariants.{Atom as AtomValue}
use Rattle.hy_val.specs.Scope.{Scope, sort_of_target}
use Rattle.hy_val.specs.Stores.{Store, write, write_all, holds}
pub use Rattle.hy_val.specs.Stores.{env_with, have_sorts, is_value_of}
use Rattle.flat_prog.specs.Program.{FlatProgram, scope_of, outs_at}
use Rattle.flat_prog.specs.Shape.{place_of}
use Rattle.flat_prog.specs.declared.block.FlatBlock.{FlatBlock}
use Rattle.flat_prog.specs.declared.block.FlatCmd.{FlatCmd}
use Rattle.flat_prog.specs.declared.block.FlatCmd.TheVariants.{Assign, Havoc, Assume, Assert, Call}
use Rattle.flat_prog.specs.declared.block.FlatNext.{FlatNext}
use Rattle.flat_prog.specs.declared.block.FlatNext.TheVariants.{Return}
use Rattle.flat_prog.specs.declared.proc.FlatKind.{FlatKind}
use Rattle.flat_prog.specs.declared.proc.FlatKind.TheVariants.{Source, Loop}
use Rattle.flat_prog.specs.declared.proc.FlatProc.{FlatProc}

-- how a run is over: it ends with these values of its outs and of the globals, or this assert of this source procedure fails
pub data Result : Type 0 where
  Ended : (outs globals : List Value) → Result
  Broken : (proc number : ℕ) → Result

-- what a callee is asked for: the flat procedure, and the values of the globals and of its ins
pub record Request : Type 0 where
  pub proc : ℕ
  pub globals : List Value
  pub args : List Value

-- A run on its way: the values of the variables, the values and the results of calls that are not yet taken, and the
-- calls so far, in order.
pub record State : Type 0 where
  pub store : Store
  pub values : List Value
  pub results : List Result
  pub calls : List Request

-- ---- commands

-- one variable takes the next value, which has its sort
abbrev pub havoc_one : Scope → Var → State → List Value → Option State
havoc_one scope x s [] = None
havoc_one scope x s (v ∷ vs) = if is_value_of (sort_of_target scope x) v then Some (record s { store = write s.store x v; values = vs }) else None

-- one value for each name, in order
abbrev pub havoc : Scope → List Var → State → Option State
havoc scope [] s = Some s
havoc scope (x ∷ xs) s = option_and_then (havoc scope xs) (havoc_one scope x s s.values)

-- what a call asks for: the procedure, the globals as they are, and the values of the arguments
abbrev pub request : List Value → Store → ℕ → List (List ExprNode) → Request
request consts s proc args = record { proc = proc; globals = s.globals; args = map (eval (env_with consts s)) args }

-- what a callee may hand back: values of the sorts of its outs and of the globals
abbrev pub can_come_back : FlatProgram → ℕ → (outs globals : List Value) → Bool
can_come_back flat proc outs globals = have_sorts outs (outs_at (slice_get flat.procs proc)) && have_sorts globals flat.globals

-- The caller goes on where the callee's run, the next one, has ended: with the globals that it handed back, and the
-- targets of the call then take the values of its outs.
abbrev pub come_back : FlatProgram → State → Request → List Var → List Result → Option State
come_back flat s call outs [] = None
come_back flat s call outs (Broken proc number ∷ results) = None
come_back flat s call outs (Ended os gs ∷ results) =
    if can_come_back flat call.proc os gs
    then Some (record { store = write_all (record { globals = gs; locals = s.store.locals }) outs os; values = s.values; results = results; calls = s.calls ++ call ∷ [] })
    else None

-- the state behind a command that holds; none where it does not
abbrev pub pass : FlatProgram → FlatProc → List Value → FlatCmd → State → Option State
pass flat q consts (Assign pairs) s = Some (record s { store = write_all s.store (map (λ p. p.0) pairs) (map (λ p. eval (env_with consts s.store) p.1) pairs) })
pass flat q consts (Havoc xs) s = havoc (scope_of flat q) xs s
pass flat q consts (Assume expr) s = if holds (env_with consts s.store) expr then Some s else None
pass flat q consts (Assert proc number expr) s = if holds (env_with consts s.store) expr then Some s else None
pass flat q consts (Call proc args outs) s = come_back flat s (request consts s.store proc args) outs s.results

-- the same for commands in order
abbrev pub pass_all : FlatProgram → FlatProc → List Value → List FlatCmd → State → Option State
pass_all flat q consts [] s = Some s
pass_all flat q consts (c ∷ cs) s = option_and_then (pass_all flat q consts cs) (pass flat q consts c s)

-- ---- commands that fail

-- a false assert is the last thing passed: no result is left
abbrev pub assert_fails : ℕ → ℕ → List Request → List Result → Option (Result × List Request)
assert_fails proc number calls [] = Some (Broken proc number, calls)
assert_fails proc number calls (r ∷ rs) = None

-- a call fails where the callee's run does, in the same assert, and its result is the last one
abbrev pub call_fails : State → Request → List Result → Option (Result × List Request)
call_fails s call [] = None
call_fails s call (Ended os gs ∷ results) = None
call_fails s call (Broken proc number ∷ []) = Some (Broken proc number, s.calls ++ call ∷ [])
call_fails s call (Broken proc number ∷ r ∷ results) = None

-- how the run is over at a command that fails, and the calls that were made
abbrev pub fail : List Value → FlatCmd → State → Option (Result × List Request)
fail consts (Assign pairs) s = None
fail consts (Havoc xs) s = None
fail consts (Assume expr) s = None
fail consts (Assert proc number expr) s = if holds (env_with consts s.store) expr then None else assert_fails proc number s.calls s.results
fail consts (Call proc args outs) s = call_fails s (request consts s.store proc args) s.results

-- ---- runs

-- the values of the outs, which stand behind those of the ins
abbrev pub outs_of : FlatProc → List Value → List Value
outs_of q locals = take (length q.outs) (drop (length q.ins) locals)

-- The run ends: in the last block the commands that are left hold, all values and results are taken, and it returns.
pub record StopEnds (flat : FlatProgram) (q : FlatProc) (consts : List Value) (cmds : List FlatCmd) (next : FlatNext) (s : State) (calls : List Request) (outs globals : List Value) : Type 0 where
  pub over : State
  pub passes : pass_all flat q consts cmds s ≡ Some over
  pub returns : next ≡ Return
  pub values : over.values ≡ []
  pub results : over.results ≡ []
  pub calls_are : calls ≡ over.calls
  pub outs_are : outs ≡ outs_of q over.store.locals
  pub globals_are : globals ≡ over.store.globals

-- The run fails: in the last block the commands up to one hold, all values are taken, and that one fails, with the last
-- result. Nothing behind it is passed.
pub record StopFails (flat : FlatProgram) (q : FlatProc) (consts : List Value) (cmds : List FlatCmd) (s : State) (calls : List Request) (proc number : ℕ) : Type 0 where
  pub before : List FlatCmd
  pub at : FlatCmd
  pub behind : List FlatCmd
  pub over : State
  pub splits : cmds ≡ before ++ at ∷ behind
  pub passes : pass_all flat q consts before s ≡ Some over
  pub fails : fail consts at over ≡ Some (Broken proc number, calls)
  pub values : over.values ≡ []

-- in the last block: how the run is over
abbrev pub Stop : FlatProgram → FlatProc → List Value → List FlatCmd → FlatNext → State → List Request → Result → Type 0
Stop flat q consts cmds next s calls (Ended outs globals) = StopEnds flat q consts cmds next s calls outs globals
Stop flat q consts cmds next s calls (Broken proc number) = StopFails flat q consts cmds s calls proc number

-- A run from within a block: the commands that are left there, then the further blocks of the path, by the edges at these
-- places of the goto lists.
abbrev pub Tail : FlatProgram → FlatProc → List Value → (path places : List ℕ) → List FlatCmd → FlatNext → State → List Request → Result → Type 0
Tail flat q consts [] [] cmds next s calls result = Stop flat q consts cmds next s calls result
Tail flat q consts [] (place ∷ places) cmds next s calls result = ⊥
Tail flat q consts (b ∷ path) [] cmds next s calls result = ⊥
Tail flat q consts (b ∷ path) (place ∷ places) cmds next s calls result =
    (block : FlatBlock) × (t : State) × (pass_all flat q consts cmds s ≡ Some t) × (place_of next place ≡ Some b) × (slice_get q.blocks b ≡ Some block)
    × Tail flat q consts path places block.cmds block.next t calls result

-- What a node of a run tree says of its own run: the flat procedure, the blocks passed, for each but the last the place in
-- its goto list of the target taken, and the values taken, in order.
pub record Track : Type 0 where
  pub proc : ℕ
  pub path : List ℕ
  pub places : List ℕ
  pub values : List Value

-- the edges that are passed: each block but the last, with the place in its goto list
abbrev pub edges_of : (path places : List ℕ) → List (ℕ × ℕ)
edges_of [] places = []
edges_of (b ∷ path) [] = []
edges_of (b ∷ path) (place ∷ places) = (b, place) ∷ edges_of path places

-- A run of a procedure from its begin, along the path, which begins at block 0, on the values that are left then and these
-- results of its calls. It makes these calls, in order, and is over so.
abbrev pub LocalRun : FlatProgram → FlatProc → List Value → Track → State → List Result → List Request → Result → Type 0
LocalRun flat q consts track begin results calls result =
    (path : List ℕ) × (block : FlatBlock) × (track.path ≡ 0 ∷ path) × (slice_get q.blocks 0 ≡ Some block)
    × Tail flat q consts path track.places block.cmds block.next (record begin { results = results; calls = [] }) calls result

-- ---- begins

-- one variable more behind the locals, with the next value, which has the sort
abbrev pub fill_one : Sort → State → List Value → Option State
fill_one sort s [] = None
fill_one sort s (v ∷ vs) = if has_sort v sort then Some (record s { store = record { globals = s.store.globals; locals = s.store.locals ++ v ∷ [] }; values = vs }) else None

-- the same for each sort, in order
abbrev pub fill : List Sort → State → Option State
fill [] s = Some s
fill (sort ∷ sorts) s = option_and_then (fill sorts) (fill_one sort s s.values)

-- an exit number as a value
abbrev pub exit_value : ℕ → Value
exit_value x = AtomValue (BvAtom (record { width = 32; bits = x }))

-- The begin of a run from these globals and ins: one of a source procedure takes a value for each out and local, in this
-- order. One of a loop procedure takes none: its outs start as its ins, its exit number as 0, and its locals as zero.
abbrev pub begin_of : FlatProc → FlatKind → (globals args values : List Value) → Option State
begin_of q (Source proc) globals args values = fill (q.outs ++ q.locals) (record { store = record { globals = globals; locals = args }; values = values; results = []; calls = [] })
begin_of q (Loop proc head) globals args values =
    Some (record { store = record { globals = globals; locals = args ++ (args ++ (exit_value 0 ∷ map zero_of q.locals)) }; values = values; results = []; calls = [] })

-- the run of a track begins so for a request, whose values have the sorts of the globals and of the callee's ins
pub record Begins (flat : FlatProgram) (track : Track) (call : Request) (q : FlatProc) (begin : State) : Type 0 where
  pub same : track.proc ≡ call.proc
  pub proc : slice_get flat.procs track.proc ≡ Some q
  pub globals : have_sorts call.globals flat.globals ≡ true
  pub args : have_sorts call.args q.ins ≡ true
  pub begin_is : begin_of q q.kind call.globals call.args track.values ≡ Some begin
