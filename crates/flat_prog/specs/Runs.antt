-- The runs of an entry, and the full inlining within a bound (after Corral, CAV 2012).
use Rattle.std.specs.Prelude.{◌≡◌, ℕ, Bool, true, ◌&&◌, List, [], ◌++◌, slice_get, Some, IsTrue}
use Rattle.std.specs.List.{list_all}
use Rattle.hy_val.specs.declared.value.Value.{Value}
use Rattle.hy_val.specs.Stores.{holds, all_differ, have_sorts}
use Rattle.flat_prog.specs.Program.{FlatProgram}
use Rattle.flat_prog.specs.Local.{State, Result, Broken, begin_of}
use Rattle.flat_prog.specs.Trees.{Run, May, Never, Means, track_of}
use Rattle.flat_prog.specs.Sites.{paths_of}
use Rattle.flat_prog.specs.Caps.{within}
use Rattle.flat_prog.specs.declared.proc.FlatProc.{FlatProc}

-- unique constants of one sort differ, and the axioms are true
abbrev pub are_allowed : FlatProgram → List Value → Bool
are_allowed flat consts = all_differ consts flat.uniques && list_all (holds (record { consts = consts; globals = []; locals = [] })) flat.axioms

-- A run tree of the entry that means this result, where free children may stand for these: its run takes one value for each
-- constant, global and in, each of its sort, then those of its begin and of its way. The constants are as the program says.
pub record RunMeans (flat : FlatProgram) (entry : ℕ) (may : May) (run : Run) (result : Result) : Type 0 where
  pub proc : FlatProc
  pub consts : List Value
  pub globals : List Value
  pub args : List Value
  pub rest : List Value
  pub begin : State
  pub same : (track_of run).proc ≡ entry
  pub proc_is : slice_get flat.procs entry ≡ Some proc
  pub values : (track_of run).values ≡ consts ++ (globals ++ (args ++ rest))
  pub consts_fit : have_sorts consts flat.consts ≡ true
  pub globals_fit : have_sorts globals flat.globals ≡ true
  pub args_fit : have_sorts args proc.ins ≡ true
  pub allowed : are_allowed flat consts ≡ true
  pub begin_is : begin_of proc proc.kind globals args rest ≡ Some begin
  pub means : Means run flat may consts proc begin result

-- a run tree of the entry that fails in this assert of this source procedure
abbrev pub FailsIn : FlatProgram → (entry : ℕ) → Run → (proc number : ℕ) → Type 0
FailsIn flat entry run proc number = RunMeans flat entry Never run (Broken proc number)

-- A member of the full inlining: a run tree of the entry, ended or failing, the site paths of whose nodes are within the
-- caps.
pub record IsFull (flat : FlatProgram) (entry bound : ℕ) (run : Run) : Type 0 where
  pub result : Result
  pub means : RunMeans flat entry Never run result
  pub within_caps : IsTrue (list_all (within flat entry bound) (paths_of run flat []))

-- no member of the full inlining fails: its verdict is Safe, and else Bug
abbrev pub NoneFails : FlatProgram → (entry bound : ℕ) → Type 0
NoneFails flat entry bound = (run : Run) (proc number : ℕ) → IsFull flat entry bound run → FailsIn flat entry run proc number → ⊥
