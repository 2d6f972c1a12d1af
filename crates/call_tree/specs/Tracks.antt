-- The nodes of a run tree, each with its site path and its track.
use Rattle.std.specs.Prelude.{ℕ, List, [], ◌∷◌, ◌++◌, slice_get, filter}
use Rattle.flat_prog.specs.Program.{FlatProgram, blocks_of}
use Rattle.flat_prog.specs.Local.{Track}
use Rattle.flat_prog.specs.Trees.{Run, Below, node, none, inner, free}
use Rattle.flat_prog.specs.Sites.{sites_passed}
use Rattle.call_tree.specs.Trees.{has_path}

-- the nodes of a run, where this is the path of its root: the children stand at the sites passed, in order
abbrev mutual
  pub tracks_of : Run → FlatProgram → List ℕ → List (List ℕ × Track)
  tracks_of (node track below) flat path = (path, track) ∷ tracks_below below flat path (sites_passed (blocks_of (slice_get flat.procs track.proc)) track.path)

  pub tracks_below : Below → FlatProgram → (path sites : List ℕ) → List (List ℕ × Track)
  tracks_below none flat path sites = []
  tracks_below (inner run below) flat path [] = []
  tracks_below (inner run below) flat path (site ∷ sites) = tracks_of run flat (path ++ site ∷ []) ++ tracks_below below flat path sites
  tracks_below (free ends values below) flat path [] = []
  tracks_below (free ends values below) flat path (site ∷ sites) = tracks_below below flat path sites

-- those of the nodes whose paths are in a tree
abbrev pub tracks_in : List (List ℕ) → List (List ℕ × Track) → List (List ℕ × Track)
tracks_in tree nodes = filter (λ n. has_path tree n.0) nodes
