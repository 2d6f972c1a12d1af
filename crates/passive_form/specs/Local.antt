-- A run of one procedure, where the results of the calls that it passes are given: what the callee of each call is asked for, and how the run ends.
use Rattle.std.specs.Prelude.{◌≡◌, ℕ, ◌+◌, ◌-◌, ◌<◌, nat_eq, Bool, true, false, not, ◌&&◌, List, [], ◌∷◌, ◌++◌, map, length, take, drop, slice_get, slice_set, Option, None, Some, if◌then◌else◌}
use Rattle.std.specs.Option.{option_and_then}
use Rattle.hy_val.specs.Exprs.{eval}
use Rattle.hy_val.specs.Values.{zero_of, has_sort, is_on}
use Rattle.hy_val.specs.declared.sort.ScalarKind.TheVariants.{Bool as BoolSort, Bv as BvSort}
use Rattle.hy_val.specs.declared.sort.Sort.{Sort}
use Rattle.hy_val.specs.declared.sort.SortKind.TheVariants.{Scalar as ScalarSort, Map as MapSort}
use Rattle.hy_val.specs.declared.value.Value.{Value}
use Rattle.hy_val.specs.declared.expr.Var.{Var}
use Rattle.hy_val.specs.declared.expr.Var.TheVariants.{Const, Global, Local}
use Rattle.hy_val.specs.declared.expr.Env.{Env}
use Rattle.hy_val.specs.declared.expr.ExprNode.{ExprNode}
use Rattle.flat_prog.specs.declared.block.FlatCmd.{FlatCmd}
use Rattle.flat_prog.specs.declared.block.FlatCmd.TheVariants.{Assign, Havoc, Assume, Assert, Call}
use Rattle.flat_prog.specs.declared.block.FlatNext.{FlatNext}
use Rattle.flat_prog.specs.declared.block.FlatNext.TheVariants.{Goto, Return}
use Rattle.flat_prog.specs.declared.block.FlatBlock.{FlatBlock}
use Rattle.flat_prog.specs.declared.proc.FlatKind.{FlatKind}
use Rattle.flat_prog.specs.declared.proc.FlatKind.TheVariants.{Source, Loop}
use Rattle.flat_prog.specs.declared.proc.FlatProc.{FlatProc}
use Rattle.flat_prog.specs.Local.{Result, Ended, Broken, Request, Track, outs_of}
use Rattle.flat_prog.specs.Program.{outs_at}
use Rattle.flat_prog.specs.Shape.{place_at, exit_sort}
use Rattle.hy_val.specs.Stores.{holds, is_value_of}
use Rattle.passive_form.specs.Limited.{Limited}
use Rattle.flat_prog.specs.Limits.{row}

-- one value of each sort, in order
abbrev pub sorted_as : List Sort → List Value → Bool
sorted_as [] [] = true
sorted_as [] (v ∷ vs) = false
sorted_as (s ∷ ss) [] = false
sorted_as (s ∷ ss) (v ∷ vs) = has_sort v s && sorted_as ss vs

abbrev pub write : Env → Var → Value → Env
write env (Const n) v = env
write env (Global n) v = record env { globals = slice_set env.globals n v }
write env (Local n) v = record env { locals = slice_set env.locals n v }

abbrev pub write_all : Env → List Var → List Value → Env
write_all env [] vs = env
write_all env (x ∷ xs) [] = env
write_all env (x ∷ xs) (v ∷ vs) = write_all (write env x v) xs vs

-- a run at a place: the variables, the values and results that are not yet taken, and the calls so far
pub record State : Type 0 where
  pub env : Env
  pub values : List Value
  pub results : List Result
  pub calls : List Request

abbrev pub alone : Env → List Value → List Result → List Request → State
alone env vs rs cs = record { env = env; values = vs; results = rs; calls = cs }

abbrev pub request : State → ℕ → List (List ExprNode) → Request
request s proc args = record { proc = proc; globals = s.env.globals; args = map (eval s.env) args }

-- the sorts of variables, by the procedure's and the program's lists
abbrev pub sort_of : Limited → FlatProc → Var → Option Sort
sort_of flat q (Const n) = None
sort_of flat q (Global n) = slice_get flat.globals n
sort_of flat q (Local n) = slice_get (q.ins ++ q.outs ++ q.locals) n

abbrev pub havoc_with : Limited → FlatProc → Var → State → List Value → Option State
havoc_with flat q x s [] = None
havoc_with flat q x s (v ∷ vs) = if is_value_of (sort_of flat q x) v then Some (alone (write s.env x v) vs s.results s.calls) else None

-- one value per name
abbrev pub havoc : Limited → FlatProc → List Var → State → Option State
havoc flat q [] s = Some s
havoc flat q (x ∷ xs) s = option_and_then (havoc flat q xs) (havoc_with flat q x s s.values)

-- those that are marked
abbrev pub picked : {A : Type 0} → List Bool → List A → List A
picked [] xs = []
picked (m ∷ ms) [] = []
picked (true ∷ ms) (x ∷ xs) = x ∷ picked ms xs
picked (false ∷ ms) (x ∷ xs) = picked ms xs

-- those that are marked are replaced by the second list's, in order
abbrev pub replaced : {A : Type 0} → List Bool → List A → List A → List A
replaced [] xs ys = xs
replaced (m ∷ ms) [] ys = []
replaced (true ∷ ms) (x ∷ xs) [] = x ∷ xs
replaced (true ∷ ms) (x ∷ xs) (y ∷ ys) = y ∷ replaced ms xs ys
replaced (false ∷ ms) (x ∷ xs) ys = x ∷ replaced ms xs ys

-- the sorts of the globals that a call of the procedure may change
abbrev pub changed_sorts : Limited → ℕ → List Sort
changed_sorts flat p = picked (row flat.changes p) flat.globals

-- the values that a callee hands back have their sorts: those of its outs, and those of the globals that it may change
abbrev pub result_fits : Limited → ℕ → List Value → List Value → Bool
result_fits flat p os gs = sorted_as (outs_at (slice_get flat.procs p)) os && sorted_as (changed_sorts flat p) gs

-- the globals that the callee may change have the values that it hands back, and the others are as before
abbrev pub after_call : Limited → ℕ → Env → List Value → Env
after_call flat p env gs = record env { globals = replaced (row flat.changes p) env.globals gs }

-- the callee came back, or not
abbrev pub come_back : Limited → State → Request → List Var → List Result → Option State
come_back flat s call outs [] = None
come_back flat s call outs (Broken p n ∷ rest) = None
come_back flat s call outs (Ended os gs ∷ rest) =
    if result_fits flat call.proc os gs
    then Some (alone (write_all (after_call flat call.proc s.env gs) outs os) s.values rest (s.calls ++ call ∷ []))
    else None

abbrev pub assigned : Env → List (Var × List ExprNode) → List Value
assigned env [] = []
assigned env (pair ∷ pairs) = eval env pair.1 ∷ assigned env pairs

abbrev pub targets_of : List (Var × List ExprNode) → List Var
targets_of [] = []
targets_of (pair ∷ pairs) = pair.0 ∷ targets_of pairs

-- where the command holds, the state after it
abbrev pub pass : Limited → FlatProc → FlatCmd → State → Option State
pass flat q (Assign pairs) s = Some (alone (write_all s.env (targets_of pairs) (assigned s.env pairs)) s.values s.results s.calls)
pass flat q (Havoc xs) s = havoc flat q xs s
pass flat q (Assume e) s = if holds s.env e then Some s else None
pass flat q (Assert p n e) s = if holds s.env e then Some s else None
pass flat q (Call p args outs) s = come_back flat s (request s p args) outs s.results

abbrev pub pass_all : Limited → FlatProc → List FlatCmd → State → Option State
pass_all flat q [] s = Some s
pass_all flat q (c ∷ cs) s = option_and_then (pass_all flat q cs) (pass flat q c s)

-- how a run is over at a command that does not hold: the assert, and the calls that were made
abbrev pub call_fails : State → Request → List Result → Option (Result × List Request)
call_fails s call [] = None
call_fails s call (Ended os gs ∷ rest) = None
call_fails s call (Broken p n ∷ []) = Some (Broken p n, s.calls ++ call ∷ [])
call_fails s call (Broken p n ∷ r ∷ rest) = None

abbrev pub over : ℕ → ℕ → List Request → List Result → Option (Result × List Request)
over p n calls [] = Some (Broken p n, calls)
over p n calls (r ∷ rs) = None

abbrev pub fail : FlatCmd → State → Option (Result × List Request)
fail (Assign pairs) s = None
fail (Havoc xs) s = None
fail (Assume e) s = None
fail (Assert p n e) s = if holds s.env e then None else over p n s.calls s.results
fail (Call p args outs) s = call_fails s (request s p args) s.results

-- the blocks of the path but the last are passed, by the edges at these places
abbrev pub cmds_of : Option FlatBlock → List FlatCmd
cmds_of None = []
cmds_of (Some b) = b.cmds

abbrev pub is_target : Option ℕ → ℕ → Bool
is_target None b = false
is_target (Some a) b = nat_eq a b

-- the block at the path's end, and the state there
abbrev pub walk : Limited → FlatProc → List ℕ → List ℕ → State → Option (Option FlatBlock × State)
walk flat q [] places s = None
walk flat q (b ∷ []) [] s = Some (slice_get q.blocks b, s)
walk flat q (b ∷ []) (place ∷ places) s = None
walk flat q (b ∷ next ∷ path) [] s = None
walk flat q (b ∷ next ∷ path) (place ∷ places) s =
    if is_target (place_at (slice_get q.blocks b) place) next
    then option_and_then (walk flat q (next ∷ path) places) (pass_all flat q (cmds_of (slice_get q.blocks b)) s)
    else None

-- what is left when the run is over
abbrev pub AllTaken : State → Type 0
AllTaken s = (s.values ≡ []) × (s.results ≡ [])

-- the variables at the start, and the values that are left
abbrev pub source_start : FlatProc → List Value → List Value → List Value → List Value → Option State
source_start q consts globals args values =
    let own = length (q.outs ++ q.locals) in
    if sorted_as (q.outs ++ q.locals) (take own values)
    then Some (alone (record { consts = consts; globals = globals; locals = args ++ take own values }) (drop own values) [] [])
    else None

abbrev pub start : FlatProc → FlatKind → List Value → List Value → List Value → List Value → Option State
start q (Source p) consts globals args values = source_start q consts globals args values
start q (Loop p head) consts globals args values =
    Some (alone (record { consts = consts; globals = globals; locals = args ++ (args ++ map zero_of (exit_sort ∷ q.locals)) }) values [] [])

-- from here the run passes the path and returns, with these results of its calls
pub record LocalEnds (flat : Limited) (q : FlatProc) (track : Track) (begin : State) (results : List Result) (calls : List Request) (outs globals : List Value) : Type 0 where
  pub last : FlatBlock
  pub arrived : State
  pub over : State
  pub walks : walk flat q track.path track.places (record begin { results = results }) ≡ Some (Some last, arrived)
  pub passes : pass_all flat q last.cmds arrived ≡ Some over
  pub returns : last.next ≡ Return
  pub taken : AllTaken over
  pub calls_are : calls ≡ over.calls
  pub outs_are : outs ≡ outs_of q over.env.locals
  pub globals_are : globals ≡ over.env.globals

-- from here the run passes the path and the commands before a position of its last block, and fails there
pub record LocalFails (flat : Limited) (q : FlatProc) (track : Track) (begin : State) (results : List Result) (calls : List Request) (proc number : ℕ) : Type 0 where
  pub last : FlatBlock
  pub arrived : State
  pub before : List FlatCmd
  pub at : FlatCmd
  pub after : List FlatCmd
  pub over : State
  pub walks : walk flat q track.path track.places (record begin { results = results }) ≡ Some (Some last, arrived)
  pub splits : last.cmds ≡ before ++ at ∷ after
  pub passes : pass_all flat q before arrived ≡ Some over
  pub fails : fail at over ≡ Some (Broken proc number, calls)
  pub taken : over.values ≡ []

abbrev pub LocalRun : Limited → FlatProc → Track → State → List Result → List Request → Result → Type 0
LocalRun flat q track begin results calls (Ended outs globals) = LocalEnds flat q track begin results calls outs globals
LocalRun flat q track begin results calls (Broken proc number) = LocalFails flat q track begin results calls proc number
