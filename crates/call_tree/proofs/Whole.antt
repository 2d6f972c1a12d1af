-- The laws as their contracts state them.
use Rattle.std.proofs.Common.{◌≡◌, ℕ, zero, suc, ◌+◌, ◌≤◌, true, not, List, [], ◌∷◌, ◌++◌, length, bytes_eq, refl, sym, ap, ◌∙◌, subst, true≢false, ⊎_elim, arith}
use Rattle.std.proofs.lemmas.Bool.{and_parts, and_from, or_cases, or_right, both_ways, not-true, not_from_false, false_from_ne_true}
use Rattle.flat_prog.specs.Program.{FlatProgram}
use Rattle.flat_prog.specs.Sites.{numbers_from}
use Rattle.flat_prog.specs.Laws.{CallsOfRuns, AllRunsKeep}
use Rattle.call_tree.specs.Trees.{has_path, are_in, all_differ, parent, IsPartTree, callees, proc_at, extended, sites_at, all_sites, is_open, open_of}
use Rattle.call_tree.specs.Questions.{frees_of}
use Rattle.call_tree.specs.AllPaths.{all_paths}
use Rattle.call_tree.specs.Laws.{OverLaw, UnderLaw, passed_of, InlineLaw, GrowLaw, FiniteLaw, SizeLaw}
use Rattle.call_tree.proofs.PartTrees.{path_is, has_head, filter_has, parent_of, site_below, part_tree_grown, tree_caps, tree_differs, fewer}
use Rattle.call_tree.proofs.Places.{has_filter}
use Rattle.call_tree.proofs.OverLaw.{over_law}
use Rattle.call_tree.proofs.UnderLaw.{under_law, over_passes}
use Rattle.call_tree.proofs.Freeing.{may_be_admits}
use Rattle.call_tree.proofs.Finite.{all_paths_have, all_paths_within, all_paths_differ, append_differ, filter_differ}

pub over : CallsOfRuns → AllRunsKeep → OverLaw
over asks keep flat entry bound tree piece run proc number fits is names full fails meet =
    over_law flat entry bound tree piece run proc number asks (keep flat) (may_be_admits flat fits) is names full fails meet

pub under : UnderLaw
under flat entry bound tree piece run is h = under_law flat entry bound tree piece run is h

pub grow : GrowLaw
grow flat entry bound tree sites is opens differ = part_tree_grown flat entry bound tree sites is opens differ

pub finite : FiniteLaw
finite flat entry bound fits = record { each = λ path. (λ h. all_paths_have flat entry bound path fits h, λ h. all_paths_within flat entry bound path h); differ = all_paths_differ flat entry bound }

pub size : SizeLaw
size flat entry bound tree fits is =
    fewer tree (all_paths flat entry bound) (tree_differs flat entry bound tree is) (λ p at. all_paths_have flat entry bound p fits (tree_caps flat entry bound tree p is at))

-- ---- the open sites differ

snoc_same : (path : List ℕ) (m n : ℕ) → path ++ m ∷ [] ≡ path ++ n ∷ [] → m ≡ n
snoc_same [] m n h = cc
snoc_same (x ∷ path) m n h = snoc_same path m n (tails (path ++ m ∷ []) (path ++ n ∷ []) h)
  where
    tails : (xs ys : List ℕ) → x ∷ xs ≡ x ∷ ys → xs ≡ ys
    tails xs ys h = cc

extended_is : (path sites p : List ℕ) → has_path (extended path sites) p ≡ true → parent p ≡ path
extended_is path [] p h = absurd (true≢false (sym h))
extended_is path (site ∷ sites) p h =
    ⊎_elim (λ e. ap parent (sym (path_is (path ++ site ∷ []) p e)) ∙ parent_of path site) (λ e. extended_is path sites p e) (or_cases (bytes_eq (path ++ site ∷ []) p) (has_path (extended path sites) p) h)

later : (path : List ℕ) (first count site : ℕ) → has_path (extended path (numbers_from first count)) (path ++ site ∷ []) ≡ true → first ≤ site
later path first zero site h = absurd (true≢false (sym h))
later path first (suc count) site h =
    ⊎_elim (λ e. let s = snoc_same path first site (path_is (path ++ first ∷ []) (path ++ site ∷ []) e) in omega arith)
    (λ e. let l = later path (first + 1) count site e in omega arith)
    (or_cases (bytes_eq (path ++ first ∷ []) (path ++ site ∷ [])) (has_path (extended path (numbers_from (first + 1) count)) (path ++ site ∷ [])) h)

extended_differ : (path : List ℕ) (first count : ℕ) → all_differ (extended path (numbers_from first count)) ≡ true
extended_differ path first zero = refl
extended_differ path first (suc count) =
    and_from (not (has_path (extended path (numbers_from (first + 1) count)) (path ++ first ∷ []))) (all_differ (extended path (numbers_from (first + 1) count)))
    (not_from_false (has_path (extended path (numbers_from (first + 1) count)) (path ++ first ∷ [])) (false_from_ne_true (has_path (extended path (numbers_from (first + 1) count)) (path ++ first ∷ []))
    (λ is. apart first (later path (first + 1) count first is))))
    (extended_differ path (first + 1) count)
  where
    apart : (n : ℕ) → n + 1 ≤ n → ⊥
    apart n h = omega arith

sites_parent : (flat : FlatProgram) (entry : ℕ) (paths : List (List ℕ)) (p : List ℕ) → has_path (all_sites flat entry paths) p ≡ true → has_path paths (parent p) ≡ true
sites_parent flat entry paths p h = site_below flat entry paths p h

all_sites_differ : (flat : FlatProgram) (entry : ℕ) (paths : List (List ℕ)) → all_differ paths ≡ true → all_differ (all_sites flat entry paths) ≡ true
all_sites_differ flat entry [] h = refl
all_sites_differ flat entry (path ∷ paths) h =
    let parts = and_parts (not (has_path paths path)) (all_differ paths) h in
    append_differ (sites_at flat entry path) (all_sites flat entry paths) (extended_differ path 0 (length (callees flat (proc_at flat entry path)))) (all_sites_differ flat entry paths parts.1)
    (λ p at more. both_ways (has_path paths path) (not-true (has_path paths path) parts.0)
    (subst (λ (x : List ℕ). has_path paths x ≡ true) (extended_is path (numbers_from 0 (length (callees flat (proc_at flat entry path)))) p at) (sites_parent flat entry paths p more)))

pub opens_differ : (flat : FlatProgram) (entry bound : ℕ) (tree : List (List ℕ)) → IsPartTree flat entry bound tree → all_differ (open_of flat entry bound tree) ≡ true
opens_differ flat entry bound tree is =
    filter_differ (is_open flat entry bound tree) (all_sites flat entry tree) (all_sites_differ flat entry tree (tree_differs flat entry bound tree is))

pub each_in : (ps qs : List (List ℕ)) → ((p : List ℕ) → has_path ps p ≡ true → has_path qs p ≡ true) → are_in ps qs ≡ true
each_in [] qs each = refl
each_in (p ∷ ps) qs each = and_from (has_path qs p) (are_in ps qs) (each p (has_head p ps)) (each_in ps qs (λ q at. each q (or_right (bytes_eq p q) (has_path ps q) at)))

pub inline : InlineLaw
inline flat entry bound tree piece run is over none_under =
    let p = over_passes flat entry bound tree piece run over none_under in
    let opens = each_in (passed_of flat entry bound tree run) (open_of flat entry bound tree) (λ q at. (filter_has (has_path (frees_of run flat [])) (open_of flat entry bound tree) q at).1) in
    let differ = filter_differ (has_path (frees_of run flat [])) (open_of flat entry bound tree) (opens_differ flat entry bound tree is) in
    record {
      some = (p.0, has_filter (has_path (frees_of run flat [])) (open_of flat entry bound tree) p.0 p.1 p.2);
      opens = opens;
      differ = differ;
      grown = part_tree_grown flat entry bound tree (passed_of flat entry bound tree run) is opens differ;
    }
