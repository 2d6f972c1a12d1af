-- The tracks at the nodes of a run, and those of them that stand in a tree.
use Rattle.std.proofs.Common.{◌≡◌, ℕ, Bool, true, false, ◌||◌, cond, List, [], ◌∷◌, ◌++◌, map, slice_get, bytes_eq, refl, sym, ap, ◌∙◌, subst, true≢false}
use Rattle.std.proofs.lemmas.Bool.{or_left, both_ways}
use Rattle.flat_prog.specs.Program.{FlatProgram, blocks_of}
use Rattle.flat_prog.specs.Local.{Track}
use Rattle.flat_prog.specs.Trees.{Run, Below, node, none, inner, free}
use Rattle.flat_prog.specs.Sites.{sites_passed, paths_of, paths_below}
use Rattle.call_tree.specs.Trees.{has_path}
use Rattle.call_tree.specs.Tracks.{tracks_of, tracks_below, tracks_in}
use Rattle.call_tree.proofs.PartTrees.{path_refl}

firsts-append : (ns ms : List (List ℕ × Track)) → map (λ n. n.0) (ns ++ ms) ≡ map (λ n. n.0) ns ++ map (λ n. n.0) ms
firsts-append [] ms = refl
firsts-append (n ∷ ns) ms = ap (λ ps. n.0 ∷ ps) (firsts-append ns ms)

-- the nodes' paths are the paths of the run
mutual
  paths_are : (run : Run) (flat : FlatProgram) (path : List ℕ) → map (λ n. n.0) (tracks_of run flat path) ≡ paths_of run flat path
  paths_are (node track below) flat path = ap (λ ps. path ∷ ps) (below_are below flat path (sites_passed (blocks_of (slice_get flat.procs track.proc)) track.path))

  below_are : (below : Below) (flat : FlatProgram) (path sites : List ℕ) → map (λ n. n.0) (tracks_below below flat path sites) ≡ paths_below below flat path sites
  below_are none flat path sites = refl
  below_are (inner run below) flat path [] = refl
  below_are (inner run below) flat path (site ∷ sites) =
      firsts-append (tracks_of run flat (path ++ site ∷ [])) (tracks_below below flat path sites)
      ∙ ap (λ ps. ps ++ map (λ n. n.0) (tracks_below below flat path sites)) (paths_are run flat (path ++ site ∷ []))
      ∙ ap (λ ps. paths_of run flat (path ++ site ∷ []) ++ ps) (below_are below flat path sites)
  below_are (free ends values below) flat path [] = refl
  below_are (free ends values below) flat path (site ∷ sites) = below_are below flat path sites

-- a node whose path is in the tree stays
pub track_kept : (tree : List (List ℕ)) (path : List ℕ) (track : Track) (ns : List (List ℕ × Track)) → has_path tree path ≡ true → tracks_in tree ((path, track) ∷ ns) ≡ (path, track) ∷ tracks_in tree ns
track_kept tree path track ns at = ap (λ b. cond b ((path, track) ∷ tracks_in tree ns) (tracks_in tree ns)) at

-- where no path is in the tree, no node stays
none_kept : (tree : List (List ℕ)) (ns : List (List ℕ × Track)) → ((p : List ℕ) → has_path tree p ≡ true → has_path (map (λ n. n.0) ns) p ≡ false) → tracks_in tree ns ≡ []
none_kept tree [] out = refl
none_kept tree (n ∷ ns) out = by_test (has_path tree n.0) refl (none_kept tree ns (λ p at. rest p (out p at)))
  where
    rest : (p : List ℕ) → (bytes_eq n.0 p || has_path (map (λ m. m.0) ns) p) ≡ false → has_path (map (λ m. m.0) ns) p ≡ false
    rest p h = none_or (bytes_eq n.0 p) (has_path (map (λ m. m.0) ns) p) h
      where
        none_or : (a b : Bool) → (a || b) ≡ false → b ≡ false
        none_or true b h = absurd (true≢false h)
        none_or false b h = h

    by_test : (b : Bool) → has_path tree n.0 ≡ b → tracks_in tree ns ≡ [] → cond b (n ∷ tracks_in tree ns) (tracks_in tree ns) ≡ []
    by_test true at all = absurd (both_ways (has_path (map (λ m. m.0) (n ∷ ns)) n.0) (out n.0 at) (or_left (bytes_eq n.0 n.0) (has_path (map (λ m. m.0) ns) n.0) (path_refl n.0)))
    by_test false at all = all

pub no_tracks : (tree : List (List ℕ)) (run : Run) (flat : FlatProgram) (path : List ℕ) → ((p : List ℕ) → has_path tree p ≡ true → has_path (paths_of run flat path) p ≡ false) → tracks_in tree (tracks_of run flat path) ≡ []
no_tracks tree run flat path out =
    none_kept tree (tracks_of run flat path) (subst (λ (ps : List (List ℕ)). (p : List ℕ) → has_path tree p ≡ true → has_path ps p ≡ false) (sym (paths_are run flat path)) out)
