-- Values of their sorts along runs: what a run knows, asks for and hands back (This is Boogie 2, typing of commands).
use Rattle.std.specs.Prelude.{◌≡◌, ℕ, true, List, [], ◌∷◌, slice_get, Some}
use Rattle.hy_val.specs.Stores.{Store, have_sorts}
use Rattle.hy_val.specs.declared.expr.ExprNode.{ExprNode}
use Rattle.hy_val.specs.declared.expr.Var.{Var}
use Rattle.hy_val.specs.declared.value.Value.{Value}
use Rattle.flat_prog.specs.Local.{Request, Result, Ended, Broken, State, Track, LocalRun, request, pass, begin_of}
use Rattle.flat_prog.specs.Program.{FlatProgram, scope_of, variables_of}
use Rattle.flat_prog.specs.Shape.{IsFlatProc, cmd_fits}
use Rattle.flat_prog.specs.declared.block.FlatCmd.{FlatCmd}
use Rattle.flat_prog.specs.declared.block.FlatCmd.TheVariants.{Call}
use Rattle.flat_prog.specs.declared.proc.FlatProc.{FlatProc}

-- each variable of the procedure has a value of its sort
pub record IsStoreOf (flat : FlatProgram) (q : FlatProc) (store : Store) : Type 0 where
  pub globals : have_sorts store.globals flat.globals ≡ true
  pub locals : have_sorts store.locals (variables_of q) ≡ true

-- a call asks a procedure that is there, with values of the sorts of the globals and of its ins
pub record IsAsked (flat : FlatProgram) (call : Request) : Type 0 where
  pub callee : FlatProc
  pub proc : slice_get flat.procs call.proc ≡ Some callee
  pub globals : have_sorts call.globals flat.globals ≡ true
  pub args : have_sorts call.args callee.ins ≡ true

abbrev pub AllAsked : FlatProgram → List Request → Type 0
AllAsked flat [] = Unit {0}
AllAsked flat (call ∷ calls) = IsAsked flat call × AllAsked flat calls

-- a run that ends hands back values of the sorts of its outs and of the globals
abbrev pub Gives : FlatProgram → FlatProc → Result → Type 0
Gives flat q (Ended outs globals) = (have_sorts outs q.outs ≡ true) × (have_sorts globals flat.globals ≡ true)
Gives flat q (Broken proc number) = Unit {0}

-- A run of a procedure begins with its variables' values of their sorts; each command keeps that; its calls ask with values
-- of their sorts; and what it hands back has its sorts.
pub record RunsKeepSorts : Type 0 where
  pub begins : (flat : FlatProgram) (q : FlatProc) (globals args values : List Value) (begin : State) → IsFlatProc flat q → have_sorts globals flat.globals ≡ true → have_sorts args q.ins ≡ true
      → begin_of q q.kind globals args values ≡ Some begin → IsStoreOf flat q begin.store
  pub commands : (flat : FlatProgram) (q : FlatProc) (consts : List Value) (cmd : FlatCmd) (s t : State) → have_sorts consts flat.consts ≡ true → cmd_fits flat.procs (scope_of flat q) cmd ≡ true → IsStoreOf flat q s.store
      → pass flat q consts cmd s ≡ Some t → IsStoreOf flat q t.store
  pub requests : (flat : FlatProgram) (q : FlatProc) (consts : List Value) (proc : ℕ) (args : List (List ExprNode)) (outs : List Var) (store : Store) → have_sorts consts flat.consts ≡ true
      → cmd_fits flat.procs (scope_of flat q) (Call proc args outs) ≡ true → IsStoreOf flat q store → IsAsked flat (request consts store proc args)
  pub calls : (flat : FlatProgram) (q : FlatProc) (consts : List Value) (track : Track) (begin : State) (results : List Result) (calls : List Request) (result : Result) → IsFlatProc flat q → have_sorts consts flat.consts ≡ true
      → IsStoreOf flat q begin.store → LocalRun flat q consts track begin results calls result → AllAsked flat calls
  pub results : (flat : FlatProgram) (q : FlatProc) (consts : List Value) (track : Track) (begin : State) (results : List Result) (calls : List Request) (result : Result) → IsFlatProc flat q → have_sorts consts flat.consts ≡ true
      → IsStoreOf flat q begin.store → LocalRun flat q consts track begin results calls result → Gives flat q result
