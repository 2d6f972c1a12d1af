-- Going down a run tree from its root, site by site.
use Rattle.std.specs.Prelude.{◌≡◌, ℕ, Bool, true, false, ◌&&◌, ◌||◌, nat_eq, List, [], ◌∷◌, slice_get, Some}
use Rattle.hy_val.specs.declared.value.Value.{Value}
use Rattle.flat_prog.specs.Program.{FlatProgram, blocks_of}
use Rattle.flat_prog.specs.Local.{State, Result}
use Rattle.flat_prog.specs.Trees.{Run, Below, node, none, inner, free, Never, Means, track_of}
use Rattle.flat_prog.specs.Sites.{sites_passed}
use Rattle.flat_prog.specs.Runs.{RunMeans}
use Rattle.flat_prog.specs.declared.proc.FlatProc.{FlatProc}
use Rattle.call_tree.specs.Pieces.{reaches}

-- a run has a node at the end of the path
abbrev mutual
  pub goes_down : Run → FlatProgram → List ℕ → Bool
  goes_down (node track below) flat [] = true
  goes_down (node track below) flat (site ∷ path) = goes_below below flat (sites_passed (blocks_of (slice_get flat.procs track.proc)) track.path) site path

  -- some child at the site has a node at the end of the rest, where the children stand at these sites, in order
  pub goes_below : Below → FlatProgram → (sites : List ℕ) → ℕ → List ℕ → Bool
  goes_below none flat sites site path = false
  goes_below (inner run below) flat [] site path = false
  goes_below (inner run below) flat (s ∷ sites) site path = (nat_eq s site && goes_down run flat path) || goes_below below flat sites site path
  goes_below (free ends values below) flat [] site path = false
  goes_below (free ends values below) flat (s ∷ sites) site path = goes_below below flat sites site path

-- a path is reached exactly where one gets down along it
abbrev pub DescentLaw : Type 0
DescentLaw = (flat : FlatProgram) (run : Run) (path : List ℕ) → reaches flat run path ≡ goes_down run flat path

-- a run tree of a procedure: from some begin it means some result
pub record IsRunTree (flat : FlatProgram) (run : Run) : Type 0 where
  pub proc : FlatProc
  pub consts : List Value
  pub begin : State
  pub result : Result
  pub proc_is : slice_get flat.procs (track_of run).proc ≡ Some proc
  pub means : Means run flat Never consts proc begin result

-- a run of the entry is a run tree of a procedure
abbrev pub EntryLaw : Type 0
EntryLaw = (flat : FlatProgram) (entry : ℕ) (run : Run) (result : Result) → RunMeans flat entry Never run result → IsRunTree flat run
