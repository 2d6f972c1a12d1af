-- Laws of partly inlined trees, each proved by a public function that does nothing.
use Rattle.std.specs.Prelude.{◌≡◌, ◌↔◌, ℕ, ◌≤◌, false, List, [], ◌∷◌, ◌++◌, length, reverse, slice_get, Some, filter, IsTrue}
use Rattle.flat_prog.specs.Program.{FlatProgram}
use Rattle.flat_prog.specs.Shape.{IsFlat}
use Rattle.flat_prog.specs.Trees.{Run}
use Rattle.flat_prog.specs.Caps.{kind_of, may_follow, within}
use Rattle.flat_prog.specs.Sites.{along}
use Rattle.flat_prog.specs.Runs.{FailsIn, IsFull}
use Rattle.call_tree.specs.declared.piece.Decision2.{Decision2}
use Rattle.call_tree.specs.Trees.{has_path, are_in, all_differ, parent, IsPartTree, callees, last_or, open_of}
use Rattle.call_tree.specs.Pieces.{reaches, meets, names_of, is_root, undecided_of}
use Rattle.call_tree.specs.Questions.{frees_of, IsOver, IsUnder}
use Rattle.call_tree.specs.AllPaths.{all_paths}
use Rattle.call_tree.specs.Tracks.{tracks_of, tracks_in}

-- A failing run within the caps that meets a piece of the tree's nodes gives a member of the over question: it fails in the same assert, and its nodes are those of the run
-- at paths of the tree, with the same tracks.
abbrev pub OverLaw : Type 0
OverLaw =
    (flat : FlatProgram) (entry bound : ℕ) (tree : List (List ℕ)) (piece : List (List ℕ × Decision2)) (run : Run) (proc number : ℕ) → IsFlat flat → IsPartTree flat entry bound tree
    → IsTrue (are_in (names_of piece) tree) → IsFull flat entry bound run → FailsIn flat entry run proc number → IsTrue (meets (reaches flat run) piece)
    → (part : Run) × (over : IsOver flat entry bound tree piece part) × (over.proc ≡ proc) × (over.number ≡ number) × (tracks_of part flat [] ≡ tracks_in tree (tracks_of run flat []))

-- a member of the under question is a failing run within the caps
abbrev pub UnderLaw : Type 0
UnderLaw =
    (flat : FlatProgram) (entry bound : ℕ) (tree : List (List ℕ)) (piece : List (List ℕ × Decision2)) (run : Run) → IsPartTree flat entry bound tree → IsUnder flat entry bound tree piece run
    → (proc : ℕ) × (number : ℕ) × IsFull flat entry bound run × FailsIn flat entry run proc number

-- the open sites that a run passes, in the tree's order
abbrev pub passed_of : FlatProgram → (entry bound : ℕ) → List (List ℕ) → Run → List (List ℕ)
passed_of flat entry bound tree run = filter (has_path (frees_of run flat [])) (open_of flat entry bound tree)

-- where the under question has no member, the open sites that a member of the over question passes are some, differ, and can be inlined
pub record CanInline (flat : FlatProgram) (entry bound : ℕ) (tree sites : List (List ℕ)) : Type 0 where
  pub some : (site : List ℕ) × IsTrue (has_path sites site)
  pub opens : IsTrue (are_in sites (open_of flat entry bound tree))
  pub differ : IsTrue (all_differ sites)
  pub grown : IsPartTree flat entry bound (tree ++ sites)

abbrev pub InlineLaw : Type 0
InlineLaw =
    (flat : FlatProgram) (entry bound : ℕ) (tree : List (List ℕ)) (piece : List (List ℕ × Decision2)) (run : Run) → IsPartTree flat entry bound tree → IsOver flat entry bound tree piece run
    → ((other : Run) → IsUnder flat entry bound tree piece other → ⊥) → CanInline flat entry bound tree (passed_of flat entry bound tree run)

-- a partial tree grows by different open sites
abbrev pub GrowLaw : Type 0
GrowLaw =
    (flat : FlatProgram) (entry bound : ℕ) (tree sites : List (List ℕ)) → IsPartTree flat entry bound tree → IsTrue (are_in sites (open_of flat entry bound tree)) → IsTrue (all_differ sites)
    → IsPartTree flat entry bound (tree ++ sites)

-- the paths within the caps are these, each once
pub record AllPaths (flat : FlatProgram) (entry bound : ℕ) (paths : List (List ℕ)) : Type 0 where
  pub each : (path : List ℕ) → IsTrue (within flat entry bound path) ↔ IsTrue (has_path paths path)
  pub differ : IsTrue (all_differ paths)

abbrev pub FiniteLaw : Type 0
FiniteLaw = (flat : FlatProgram) (entry bound : ℕ) → IsFlat flat → AllPaths flat entry bound (all_paths flat entry bound)

-- the root alone is a partial tree, where a procedure may be open at all
abbrev pub RootLaw : Type 0
RootLaw = (flat : FlatProgram) (entry bound : ℕ) → 1 ≤ bound → IsPartTree flat entry bound ([] ∷ [])

-- different open sites of a partial tree; none is a node, and each one's parent is
pub record AreOpen (flat : FlatProgram) (entry bound : ℕ) (tree sites : List (List ℕ)) : Type 0 where
  pub opens : IsTrue (are_in sites (open_of flat entry bound tree))
  pub differ : IsTrue (all_differ sites)
  pub apart : (site : List ℕ) → IsTrue (has_path sites site) → has_path tree site ≡ false
  pub below : (site : List ℕ) → IsTrue (has_path sites site) → IsTrue (has_path tree (parent site))

abbrev pub OpensLaw : Type 0
OpensLaw = (flat : FlatProgram) (entry bound : ℕ) (tree : List (List ℕ)) → IsPartTree flat entry bound tree → AreOpen flat entry bound tree (open_of flat entry bound tree)

-- an undecided node is a node of the tree, not the root, and no decision names it
pub record IsFree (tree : List (List ℕ)) (piece : List (List ℕ × Decision2)) (path : List ℕ) : Type 0 where
  pub node : IsTrue (has_path tree path)
  pub below : is_root path ≡ false
  pub unnamed : has_path (names_of piece) path ≡ false

abbrev pub UndecidedLaw : Type 0
UndecidedLaw = (tree : List (List ℕ)) (piece : List (List ℕ × Decision2)) (path : List ℕ) → IsTrue (has_path (undecided_of tree piece) path) → IsFree tree piece path

-- different paths that are all among others are at most as many
abbrev pub CountLaw : Type 0
CountLaw = (some others : List (List ℕ)) → IsTrue (all_differ some) → IsTrue (are_in some others) → length some ≤ length others

-- each node of a partial tree is within the caps
abbrev pub NodesLaw : Type 0
NodesLaw = (flat : FlatProgram) (entry bound : ℕ) (tree : List (List ℕ)) (path : List ℕ) → IsPartTree flat entry bound tree → IsTrue (has_path tree path) → IsTrue (within flat entry bound path)

-- a site behind a path within the caps is so exactly where its callee may follow the procedures on the way there
abbrev pub SiteLaw : Type 0
SiteLaw =
    (flat : FlatProgram) (entry bound : ℕ) (path way : List ℕ) (site callee : ℕ) → along flat entry path ≡ Some way → IsTrue (within flat entry bound path) → slice_get (callees flat (last_or 0 way)) site ≡ Some callee
    → within flat entry bound (path ++ site ∷ []) ≡ may_follow bound (kind_of (slice_get flat.procs callee)) callee (reverse way)

-- a partial tree has no more nodes than there are paths within the caps
abbrev pub SizeLaw : Type 0
SizeLaw = (flat : FlatProgram) (entry bound : ℕ) (tree : List (List ℕ)) → IsFlat flat → IsPartTree flat entry bound tree → length tree ≤ length (all_paths flat entry bound)
