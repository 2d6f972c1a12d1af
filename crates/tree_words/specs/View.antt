-- Views: what an assignment to a question's terms says of each node of a partly inlined call tree (after Corral, CAV 2012). Of the node itself, its own run
-- and how it is over; of each of its call sites, whether the run passes it, what the callee is asked for, whether it fails, and what comes back.
use Rattle.std.specs.Prelude.{◌≡◌, ℕ, Bool, true, false, List, ◌++◌, map}
use Rattle.hy_val.specs.declared.value.Value.{Value}
use Rattle.flat_prog.specs.Once.{has_number}
use Rattle.flat_prog.specs.declared.proc.FlatProc.{FlatProc}
use Rattle.flat_prog.specs.Program.{FlatProgram}
use Rattle.flat_prog.specs.Local.{Track, State, Request, Result, Ended, Broken, LocalRun, Begins}
use Rattle.flat_prog.specs.Sites.{sites_passed}

-- of a call site: whether it is passed, whether the callee fails, what it is asked for, and its outs and the globals after it where it ends
pub record SiteView : Type 0 where
  pub on : Bool
  pub fails : Bool
  pub call : Request
  pub outs : List Value
  pub globals : List Value

-- of a node: whether it ends, whether it fails, its outs and the globals where it ends, its own run, and its sites by number
pub record NodeView : Type 0 where
  pub ends : Bool
  pub fails : Bool
  pub outs : List Value
  pub globals : List Value
  pub track : Track
  pub site : ℕ → SiteView

-- the result of a callee that fails, and of one that ends
abbrev pub over_in : Bool → ℕ × ℕ → List Value → List Value → Result
over_in true broken outs globals = Broken (broken.0) (broken.1)
over_in false broken outs globals = Ended outs globals

-- How the callee at a site is over. A view does not say in which assert a callee fails: broken does, by source procedure and number.
abbrev pub result_at : (ℕ → ℕ × ℕ) → NodeView → ℕ → Result
result_at broken v i = over_in (v.site i).fails (broken i) (v.site i).outs (v.site i).globals

abbrev pub call_at : NodeView → ℕ → Request
call_at v i = (v.site i).call

-- The view has the sites and the calls of a run along a path, and how its callees are over: it passes the first sites of the path and no others.
pub record SaysRun (q : FlatProc) (v : NodeView) (broken : ℕ → ℕ × ℕ) (path : List ℕ) (calls : List Request) (results : List Result) : Type 0 where
  pub passed : List ℕ
  pub more : List ℕ
  pub along : sites_passed q.blocks path ≡ passed ++ more
  pub apart : (i : ℕ) → has_number more i ≡ true → has_number passed i ≡ false
  pub calls_are : calls ≡ map (call_at v) passed
  pub results_are : results ≡ map (result_at broken v) passed
  pub sites_are : (i : ℕ) → (v.site i).on ≡ has_number passed i

-- the view stands for a run of the procedure that is called, with this result
pub record HasRun (flat : FlatProgram) (consts : List Value) (call : Request) (v : NodeView) (broken : ℕ → ℕ × ℕ) (result : Result) : Type 0 where
  pub q : FlatProc
  pub begin : State
  pub results : List Result
  pub calls : List Request
  pub begins : Begins flat v.track call q begin
  pub run : LocalRun flat q consts v.track begin results calls result
  pub says : SaysRun q v broken v.track.path calls results

-- where the view ends or fails there is such a run, whatever the callees fail with
pub record IsSound (flat : FlatProgram) (consts : List Value) (call : Request) (v : NodeView) : Type 0 where
  pub ends : v.ends ≡ true → (broken : ℕ → ℕ × ℕ) → HasRun flat consts call v broken (Ended v.outs v.globals)
  pub fails : v.fails ≡ true → (broken : ℕ → ℕ × ℕ) → (proc : ℕ) × (number : ℕ) × HasRun flat consts call v broken (Broken proc number)
