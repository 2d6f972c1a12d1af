-- What a run of one procedure takes and asks for: values and results from the front of what is given, calls at the sites on
-- its path, and the globals that it leaves alone.
use Rattle.std.specs.Prelude.{◌≡◌, ◌≤◌, ℕ, true, List, [], ◌∷◌, ◌++◌, map, length, slice_get, Option, Some}
use Rattle.hy_val.specs.Stores.{Store}
use Rattle.hy_val.specs.declared.sort.Sort.{Sort}
use Rattle.hy_val.specs.declared.value.Value.{Value}
use Rattle.flat_prog.specs.Changes.{MayChange, Unchanged, AllKeep}
use Rattle.flat_prog.specs.Local.{Request, Result, Ended, Broken, State, Track, Tail, can_come_back, pass, pass_all, fill}
use Rattle.flat_prog.specs.Program.{FlatProgram}
use Rattle.flat_prog.specs.Sites.{sites_of, sites_passed}
use Rattle.flat_prog.specs.declared.block.FlatCmd.{FlatCmd}
use Rattle.flat_prog.specs.declared.block.FlatNext.{FlatNext}
use Rattle.flat_prog.specs.declared.proc.FlatProc.{FlatProc}

-- ---- what a step takes

-- a state of these parts
abbrev pub stated : Store → List Value → List Result → List Request → State
stated store values results calls = record { store = store; values = values; results = results; calls = calls }

-- From s to t a step takes these values and results, from the front, and makes these calls; what is left of both stays. It
-- does the same with these alone, whatever stands behind them and whatever was called before.
pub record Took (step : State → Option State) (s t : State) : Type 0 where
  pub values : List Value
  pub results : List Result
  pub calls : List Request
  pub values_are : s.values ≡ values ++ t.values
  pub results_are : s.results ≡ results ++ t.results
  pub calls_are : t.calls ≡ s.calls ++ calls
  pub alone : (vs : List Value) (rs : List Result) (cs : List Request) → step (stated s.store (values ++ vs) (results ++ rs) cs) ≡ Some (stated t.store vs rs (cs ++ calls))

-- one command, commands in order, and the variables that are filled at a begin take so
pub record CommandsTakeAFront : Type 0 where
  pub one : (flat : FlatProgram) (q : FlatProc) (consts : List Value) (cmd : FlatCmd) (s t : State) → pass flat q consts cmd s ≡ Some t → Took (pass flat q consts cmd) s t
  pub all : (flat : FlatProgram) (q : FlatProc) (consts : List Value) (cmds : List FlatCmd) (s t : State) → pass_all flat q consts cmds s ≡ Some t → Took (pass_all flat q consts cmds) s t
  pub begins : (sorts : List Sort) (s t : State) → fill sorts s ≡ Some t → Took (fill sorts) s t

-- A run from within a block adds its calls behind those that were made before, whatever these are.
pub record Called (flat : FlatProgram) (q : FlatProc) (consts : List Value) (path places : List ℕ) (cmds : List FlatCmd) (next : FlatNext) (s : State) (calls : List Request) (result : Result) : Type 0 where
  pub made : List Request
  pub calls_are : calls ≡ s.calls ++ made
  pub again : (before : List Request) → Tail flat q consts path places cmds next (stated s.store s.values s.results before) (before ++ made) result

-- ---- what a run asks for

-- these procedures are called at these sites, in order; some sites may be left over
abbrev pub Sited : (callees sites procs : List ℕ) → Type 0
Sited callees sites [] = Unit {0}
Sited callees [] (p ∷ ps) = ⊥
Sited callees (site ∷ sites) (p ∷ ps) = (slice_get callees site ≡ Some p) × Sited callees sites ps

-- a callee that ended handed back values of the sorts of its outs and of the globals
abbrev pub Fits : FlatProgram → Request → Result → Type 0
Fits flat call (Ended outs globals) = can_come_back flat call.proc outs globals ≡ true
Fits flat call (Broken proc number) = Unit {0}

-- so did each, as far as the results go
abbrev pub AllFit : FlatProgram → List Request → List Result → Type 0
AllFit flat [] results = Unit {0}
AllFit flat (call ∷ calls) [] = Unit {0}
AllFit flat (call ∷ calls) (result ∷ results) = Fits flat call result × AllFit flat calls results

-- a run that ended left alone what it may not change
abbrev pub KeptBy : (ℕ → Type 0) → List Value → Result → Type 0
KeptBy changes globals (Ended outs new) = Unchanged changes globals new
KeptBy changes globals (Broken proc number) = Unit {0}

-- The calls of a run of the procedure of this number: one for each result, at most as many as its path has sites, to the
-- sites on the path in order; what came back has its sorts; and where each callee left alone what it may not change, so does
-- the run.
pub record CallsOfRun (flat : FlatProgram) (p : ℕ) (q : FlatProc) (track : Track) (begin : State) (results : List Result) (calls : List Request) (result : Result) : Type 0 where
  pub one_each : length calls ≡ length results
  pub sited : Sited (sites_of q.blocks) (sites_passed q.blocks track.path) (map (λ (r : Request). r.proc) calls)
  pub few : length calls ≤ length (sites_passed q.blocks track.path)
  pub fit : AllFit flat calls results
  pub keeps : AllKeep flat calls results → KeptBy (λ g. MayChange flat g p) begin.store.globals result
