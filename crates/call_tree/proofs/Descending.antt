-- Whether a run tree reaches a path is told by going down from its root, site by site.
use Rattle.std.proofs.Common.{◌≡◌, ℕ, Bool, true, false, ◌&&◌, ◌||◌, nat_eq, List, [], ◌∷◌, ◌++◌, slice_get, bytes_eq, refl, sym, ap, ◌∙◌, subst, append_assoc, append-nil}
use Rattle.std.proofs.lemmas.Bool.{false_from_ne_true, or_left, eq-eqb, eqb-true, both_ways}
use Rattle.flat_prog.specs.Program.{FlatProgram, blocks_of}
use Rattle.flat_prog.specs.Trees.{Run, Below, node, none, inner, free}
use Rattle.flat_prog.specs.Sites.{sites_passed, paths_of, paths_below}
use Rattle.call_tree.specs.Trees.{has_path}
use Rattle.call_tree.specs.Pieces.{reaches}
use Rattle.call_tree.specs.Descent.{goes_down, goes_below, DescentLaw, EntryLaw}
use Rattle.call_tree.proofs.PartTrees.{path_is, path_refl}
use Rattle.call_tree.proofs.Places.{has-append, run_extends}

front_same : (path xs ys : List ℕ) → path ++ xs ≡ path ++ ys → xs ≡ ys
front_same [] xs ys h = h
front_same (x ∷ path) xs ys h = front_same path xs ys (tails (path ++ xs) (path ++ ys) h)
  where
    tails : (xs ys : List ℕ) → x ∷ xs ≡ x ∷ ys → xs ≡ ys
    tails xs ys h = cc

-- a path that goes on is not the root's own
root_other : (path : List ℕ) (site : ℕ) (rest : List ℕ) → bytes_eq path (path ++ site ∷ rest) ≡ false
root_other path site rest =
    false_from_ne_true (bytes_eq path (path ++ site ∷ rest)) (λ e. empty (front_same path [] (site ∷ rest) (append-nil path ∙ path_is path (path ++ site ∷ rest) e)))
  where
    empty : [] ≡ site ∷ rest → ⊥
    empty h = cc

-- a run at another site does not reach it
other_site : (run : Run) (flat : FlatProgram) (path : List ℕ) (s site : ℕ) (rest : List ℕ) → nat_eq s site ≡ false → has_path (paths_of run flat (path ++ s ∷ [])) (path ++ site ∷ rest) ≡ false
other_site run flat path s site rest e =
    false_from_ne_true (has_path (paths_of run flat (path ++ s ∷ [])) (path ++ site ∷ rest))
    (λ h. let x = run_extends run flat (path ++ s ∷ []) (path ++ site ∷ rest) h in
    both_ways (nat_eq s site) e (eq-eqb s site (heads x.0 (sym (front_same path (site ∷ rest) (s ∷ x.0) (x.1 ∙ append_assoc path (s ∷ []) x.0))))))
  where
    heads : (xs : List ℕ) → s ∷ xs ≡ site ∷ rest → s ≡ site
    heads xs h = cc

at_site : (run : Run) (flat : FlatProgram) (path : List ℕ) (s site : ℕ) (rest : List ℕ) (b : Bool) → nat_eq s site ≡ b → has_path (paths_of run flat (path ++ s ∷ [])) ((path ++ s ∷ []) ++ rest) ≡ goes_down run flat rest →
    has_path (paths_of run flat (path ++ s ∷ [])) (path ++ site ∷ rest) ≡ (b && goes_down run flat rest)
at_site run flat path s site rest true e h =
    ap (λ p. has_path (paths_of run flat (path ++ s ∷ [])) p) (sym (append_assoc path (s ∷ []) rest ∙ ap (λ n. path ++ n ∷ rest) (eqb-true s site e))) ∙ h
at_site run flat path s site rest false e h = other_site run flat path s site rest e

mutual
  pub down_run : (run : Run) (flat : FlatProgram) (path rest : List ℕ) → has_path (paths_of run flat path) (path ++ rest) ≡ goes_down run flat rest
  down_run (node track below) flat path [] =
      or_left (bytes_eq path (path ++ [])) (has_path (paths_below below flat path (sites_passed (blocks_of (slice_get flat.procs track.proc)) track.path)) (path ++ []))
      (subst (λ (p : List ℕ). bytes_eq path p ≡ true) (sym (append-nil path)) (path_refl path))
  down_run (node track below) flat path (site ∷ rest) =
      let sites = sites_passed (blocks_of (slice_get flat.procs track.proc)) track.path in
      ap (λ b. b || has_path (paths_below below flat path sites) (path ++ site ∷ rest)) (root_other path site rest) ∙ down_below below flat path sites site rest

  pub down_below : (below : Below) (flat : FlatProgram) (path sites : List ℕ) (site : ℕ) (rest : List ℕ) → has_path (paths_below below flat path sites) (path ++ site ∷ rest) ≡ goes_below below flat sites site rest
  down_below none flat path sites site rest = refl
  down_below (inner run below) flat path [] site rest = refl
  down_below (inner run below) flat path (s ∷ sites) site rest =
      has-append (paths_of run flat (path ++ s ∷ [])) (paths_below below flat path sites) (path ++ site ∷ rest)
      ∙ ap (λ b. has_path (paths_of run flat (path ++ s ∷ [])) (path ++ site ∷ rest) || b) (down_below below flat path sites site rest)
      ∙ ap (λ b. b || goes_below below flat sites site rest) (at_site run flat path s site rest (nat_eq s site) refl (down_run run flat (path ++ s ∷ []) rest))
  down_below (free ends values below) flat path [] site rest = refl
  down_below (free ends values below) flat path (s ∷ sites) site rest = down_below below flat path sites site rest

-- going down from the root tells what is reached
pub reached_is : (run : Run) (flat : FlatProgram) (path : List ℕ) → reaches flat run path ≡ goes_down run flat path
reached_is run flat path = down_run run flat [] path

pub descent : DescentLaw
descent flat run path = reached_is run flat path

pub of_entry : EntryLaw
of_entry flat entry run result m = record {
  proc = m.proc;
  consts = m.consts;
  begin = m.begin;
  result = result;
  proc_is = ap (λ p. slice_get flat.procs p) m.same ∙ m.proc_is;
  means = m.means;
}
