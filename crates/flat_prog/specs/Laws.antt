-- Laws of flat programs and their runs, each proved by a public function that does nothing.
use Rattle.std.specs.Prelude.{◌≡◌, ◌↔◌, ◌≤◌, ℕ, ◌+◌, Bool, false, List, [], ◌∷◌, ◌++◌, replicate, IsTrue, Some, slice_get, slice_index_or}
use Rattle.std.specs.List.{list_all}
use Rattle.hy_val.specs.declared.value.Value.{Value}
use Rattle.flat_prog.specs.Caps.{times, kind_of, may_follow, within, Capped}
use Rattle.flat_prog.specs.Changes.{MayChange, Keeps, MayBe}
use Rattle.flat_prog.specs.Local.{Request, Result, State, Track, Tail, LocalRun}
use Rattle.flat_prog.specs.Nodes.{are_nodes, run_of, runs_of, stray, track_at}
use Rattle.flat_prog.specs.Once.{numbers_differ}
use Rattle.flat_prog.specs.Ordering.{IsAcyclic}
use Rattle.flat_prog.specs.Passing.{CallsOfRun, KeptBy, Called}
use Rattle.flat_prog.specs.Program.{FlatProgram}
use Rattle.flat_prog.specs.Runs.{RunMeans}
use Rattle.flat_prog.specs.Shape.{IsFlat, IsFlatProc, is_loop_kind}
use Rattle.flat_prog.specs.Sites.{sites_passed, paths_of, along}
use Rattle.flat_prog.specs.Trees.{Run, Below, node, none, inner, free, track_of, Never, Means, IsCall}
use Rattle.flat_prog.specs.declared.block.FlatCmd.{FlatCmd}
use Rattle.flat_prog.specs.declared.block.FlatNext.{FlatNext}
use Rattle.flat_prog.specs.declared.proc.FlatProc.{FlatProc}
use Rattle.flat_prog.specs.declared.run.Child.{Child}
use Rattle.flat_prog.specs.declared.run.Child.TheVariants.{Node, Free}
use Rattle.flat_prog.specs.declared.run.RunNode.{RunNode}

-- ---- orders

-- the blocks of a procedure of a flat program have an order in which each edge leads on
abbrev pub FlatProcsAreAcyclic : Type 0
FlatProcsAreAcyclic = (flat : FlatProgram) (q : FlatProc) → IsFlatProc flat q → IsAcyclic q

-- ---- nodes and trees

-- what stands below a node with these children, where these are the runs of all nodes
abbrev pub below_of : List Run → List Child → Below
below_of runs [] = none
below_of runs (Node i ∷ children) = inner (slice_index_or runs i stray) (below_of runs children)
below_of runs (Free ends values ∷ children) = free ends values (below_of runs children)

-- the run of the node of this number
abbrev pub run_at : List RunNode → ℕ → Run
run_at nodes i = slice_index_or (runs_of 0 nodes) i stray

-- The run of each node has the node's own track, and below it the runs of the nodes that its children name; that of the
-- tree is the first.
abbrev pub NodesAreRuns : Type 0
NodesAreRuns =
    (nodes : List RunNode) → IsTrue (are_nodes nodes)
    → (run_of nodes ≡ run_at nodes 0) × ((i : ℕ) (n : RunNode) → slice_get nodes i ≡ Some n → run_at nodes i ≡ node (track_at n) (below_of (runs_of 0 nodes) n.children))

-- ---- runs of one procedure

-- a run from within a block adds its calls behind those before
abbrev pub RunsAddTheirCalls : Type 0
RunsAddTheirCalls =
    (flat : FlatProgram) (q : FlatProc) (consts : List Value) (path places : List ℕ) (cmds : List FlatCmd) (next : FlatNext) (s : State) (calls : List Request) (result : Result)
    → Tail flat q consts path places cmds next s calls result → Called flat q consts path places cmds next s calls result

-- what a run of a procedure asks for, and what it leaves alone
abbrev pub CallsOfRuns : Type 0
CallsOfRuns =
    (flat : FlatProgram) (p : ℕ) (q : FlatProc) (consts : List Value) (track : Track) (begin : State) (results : List Result) (calls : List Request) (result : Result)
    → slice_get flat.procs p ≡ Some q → LocalRun flat q consts track begin results calls result → CallsOfRun flat p q track begin results calls result

-- the sites on the path of a run differ
abbrev pub OnceLaw : Type 0
OnceLaw =
    (flat : FlatProgram) (p : ℕ) (q : FlatProc) (consts : List Value) (track : Track) (begin : State) (results : List Result) (calls : List Request) (result : Result) → IsFlat flat
    → slice_get flat.procs p ≡ Some q → LocalRun flat q consts track begin results calls result → IsTrue (numbers_differ (sites_passed q.blocks track.path))

-- ---- run trees

-- Runs leave alone the globals that their procedures may not change, with free children and without; and so do the calls
-- that they answer.
pub record RunsKeep (flat : FlatProgram) : Type 0 where
  pub free : (call : Request) (ends : Bool) (values : List Value) (result : Result) → MayBe flat call ends values result → Keeps flat call result
  pub part : (consts : List Value) (run : Run) (q : FlatProc) (begin : State) (result : Result) → slice_get flat.procs (track_of run).proc ≡ Some q → Means run flat (MayBe flat) consts q begin result → KeptBy (λ g. MayChange flat g (track_of run).proc) begin.store.globals result
  pub part_calls : (consts : List Value) (run : Run) (call : Request) (result : Result) → IsCall flat (MayBe flat) consts run call result → Keeps flat call result
  pub whole : (consts : List Value) (run : Run) (q : FlatProc) (begin : State) (result : Result) → slice_get flat.procs (track_of run).proc ≡ Some q → Means run flat Never consts q begin result → KeptBy (λ g. MayChange flat g (track_of run).proc) begin.store.globals result
  pub whole_calls : (consts : List Value) (run : Run) (call : Request) (result : Result) → IsCall flat Never consts run call result → Keeps flat call result

abbrev pub AllRunsKeep : Type 0
AllRunsKeep = (flat : FlatProgram) → RunsKeep flat

-- ---- caps

-- the site paths of the nodes of a run tree of the entry are within the caps exactly where the tree is
abbrev pub CapsOfPathsAreOfTrees : Type 0
CapsOfPathsAreOfTrees =
    (flat : FlatProgram) (entry bound : ℕ) (run : Run) (result : Result) → RunMeans flat entry Never run result
    → IsTrue (list_all (within flat entry bound) (paths_of run flat [])) ↔ (IsTrue (may_follow bound (kind_of (slice_get flat.procs entry)) entry []) × Capped run flat bound (entry ∷ []))

-- These procedures are along a path within the caps: each of the source stands at most bound times among them, and each of
-- a loop at most bound + 1 times in a row.
pub record AreCapped (flat : FlatProgram) (bound : ℕ) (procs : List ℕ) : Type 0 where
  pub sources : (p : ℕ) → is_loop_kind (kind_of (slice_get flat.procs p)) ≡ false → times p procs ≤ bound
  pub loops : (p count : ℕ) (before behind : List ℕ) → IsTrue (is_loop_kind (kind_of (slice_get flat.procs p))) → procs ≡ before ++ (replicate count p ++ behind) → count ≤ bound + 1

-- a path that exists, along procedures that are within the caps
pub record IsWithin (flat : FlatProgram) (entry bound : ℕ) (path : List ℕ) : Type 0 where
  pub procs : List ℕ
  pub exists : along flat entry path ≡ Some procs
  pub capped : AreCapped flat bound procs

-- `within` is true exactly of these
abbrev pub WithinIsExact : Type 0
WithinIsExact = (flat : FlatProgram) (entry bound : ℕ) (path : List ℕ) → IsTrue (within flat entry bound path) ↔ IsWithin flat entry bound path
