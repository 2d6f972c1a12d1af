-- The table of a partly inlined tree of calls: its nodes by number, in the tree's order.
use Rattle.std.specs.Prelude.{◌≡◌, ℕ, zero, suc, List, [], ◌∷◌, map, length, slice_get, bytes_eq, if◌then◌else◌, Option, None, Some}
use Rattle.std.specs.Option.{option_map}
use Rattle.flat_prog.specs.Program.{FlatProgram}
use Rattle.flat_prog.specs.Sites.{numbers_from, sites_of}
use Rattle.flat_prog.specs.declared.proc.FlatProc.{FlatProc}
use Rattle.call_tree.specs.Trees.{extended, last_or, parent, proc_at, sites_at}
use Rattle.tree_terms.specs.declared.linked.Linked.{Linked}
use Rattle.tree_terms.specs.declared.linked.Place.{Place}
use Rattle.tree_terms.specs.declared.linked.SiteTerms.{SiteTerms}
use Rattle.tree_terms.specs.declared.linked.Template.{Template}
use Rattle.tree_words.specs.Linking.{number_or, proc_by, sites_by}

-- the first place of a path in a list of paths
abbrev pub place_in : List (List ℕ) → List ℕ → Option ℕ
place_in [] path = None
place_in (p ∷ ps) path = if bytes_eq p path then Some zero else option_map suc (place_in ps path)

-- the node of a path: its procedure, its caller, the site there, and for each of its own sites the node there
abbrev pub place_by : FlatProgram → (entry : ℕ) → List (List ℕ) → List ℕ → Place
place_by flat entry tree path = record {
  template = proc_at flat entry path;
  parent = number_or (place_in tree (parent path));
  site = last_or 0 path;
  kids = map (place_in tree) (sites_at flat entry path);
}

-- each path of the tree has its node, in order
abbrev pub IsTabled : FlatProgram → (entry : ℕ) → List (List ℕ) → Linked → Type 0
IsTabled flat entry tree q = q.tree ≡ map (place_by flat entry tree) tree

-- each procedure has a formula, whose sites call what the procedure's do
abbrev pub HaveSites : FlatProgram → List Template → Type 0
HaveSites flat templates = map (λ (t : Template). map (λ (s : SiteTerms). s.proc) t.sites) templates ≡ map (λ (q : FlatProc). sites_of q.blocks) flat.procs

-- ---- what the code reads; no public clause cites it

abbrev pub sites_of_template : List Template → ℕ → List SiteTerms
sites_of_template templates p = sites_by (slice_get templates p)

abbrev pub called_by : List Template → ℕ → ℕ → ℕ
called_by templates p site = proc_by (slice_get (sites_of_template templates p) site)

abbrev pub called_from : List Template → Option Place → ℕ → ℕ
called_from templates None site = 0
called_from templates (Some p) site = called_by templates p.template site

-- the procedure of a path, by the node of its parent
abbrev pub proc_from : List Template → List Place → (entry : ℕ) → List ℕ → ℕ → ℕ
proc_from templates tree entry [] up = entry
proc_from templates tree entry (site ∷ sites) up = called_from templates (slice_get tree up) (last_or 0 (site ∷ sites))

abbrev pub place_with : List (List ℕ) → List Template → List ℕ → (proc up : ℕ) → Place
place_with paths templates path proc up = record {
  template = proc;
  parent = up;
  site = last_or 0 path;
  kids = map (place_in paths) (extended path (numbers_from 0 (length (sites_of_template templates proc))));
}

abbrev pub place_from : List (List ℕ) → List Template → List Place → (entry : ℕ) → List ℕ → Place
place_from paths templates tree entry path =
    place_with paths templates path (proc_from templates tree entry path (number_or (place_in paths (parent path)))) (number_or (place_in paths (parent path)))
