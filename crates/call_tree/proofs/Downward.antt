-- Going down a run tree over the list of its nodes.
use Rattle.std.proofs.Common.{◌≡◌, ℕ, zero, suc, ◌+◌, ◌<◌, ◌≤◌, Bool, true, false, not, ◌&&◌, ◌||◌, nat_eq, nat_lt, if◌then◌else◌, List, [], ◌∷◌, length, drop, slice_get, slice_index_or, Option, None, Some, refl, sym, ap, ◌∙◌, subst, arith, not-suc-le-zero}
use Rattle.std.proofs.lemmas.Bool.{and_parts, not-true, or_parts, eqb-true, ltb-true, ltb-false}
use Rattle.std.specs.List.{list_all}
use Rattle.hy_val.specs.declared.value.Value.{Value}
use Rattle.flat_prog.specs.Program.{FlatProgram, blocks_of}
use Rattle.flat_prog.specs.Shape.{IsFlat}
use Rattle.flat_prog.specs.Local.{Request, Result}
use Rattle.flat_prog.specs.declared.proc.FlatProc.{FlatProc}
use Rattle.flat_prog.specs.declared.run.Child.{Child}
use Rattle.flat_prog.specs.declared.run.Child.TheVariants.{Node, Free}
use Rattle.flat_prog.specs.declared.run.RunNode.{RunNode}
use Rattle.flat_prog.specs.Trees.{Run, Below, node, none, inner, free, Never, Answer}
use Rattle.flat_prog.specs.Laws.{OnceLaw, NodesAreRuns, below_of, run_at}
use Rattle.flat_prog.specs.Sites.{sites_passed}
use Rattle.flat_prog.specs.Nodes.{is_child, nodes_fit, are_nodes, are_whole_nodes, stray, track_at, runs_of, run_of}
use Rattle.flat_prog.specs.Once.{has_number, numbers_differ}
use Rattle.call_tree.specs.Walks.{node_of, child_for}
use Rattle.call_tree.specs.Pieces.{reaches}
use Rattle.call_tree.specs.Descent.{goes_down, goes_below, IsRunTree}
use Rattle.call_tree.proofs.Descending.{reached_is}
use Rattle.call_tree.proofs.Seeking.{next_of}

-- ---- going down at a site

none_after : (below : Below) (flat : FlatProgram) (sites : List ℕ) (site : ℕ) (path : List ℕ) → has_number sites site ≡ false → goes_below below flat sites site path ≡ false
none_after none flat sites site path h = refl
none_after (inner run below) flat [] site path h = refl
none_after (inner run below) flat (s ∷ sites) site path h =
    let parts = or_parts (nat_eq s site) (has_number sites site) h in
    ap (λ b. (b && goes_down run flat path) || goes_below below flat sites site path) parts.0 ∙ none_after below flat sites site path parts.1
none_after (free ends values below) flat [] site path h = refl
none_after (free ends values below) flat (s ∷ sites) site path h = none_after below flat sites site path (or_parts (nat_eq s site) (has_number sites site) h).1

abbrev pub down_at : FlatProgram → List Run → List ℕ → Option ℕ → Bool
down_at flat runs path None = false
down_at flat runs path (Some i) = goes_down (slice_index_or runs i stray) flat path

or_no : (b : Bool) → (b || false) ≡ b
or_no true = refl
or_no false = refl

-- where the sites differ, the first place of the site decides
pub child_down : (flat : FlatProgram) (runs : List Run) (sites : List ℕ) (children : List Child) (site : ℕ) (path : List ℕ) → numbers_differ sites ≡ true →
    goes_below (below_of runs children) flat sites site path ≡ down_at flat runs path (child_for sites children site)
child_down flat runs [] [] site path h = refl
child_down flat runs (s ∷ sites) [] site path h = refl
child_down flat runs [] (Node i ∷ children) site path h = refl
child_down flat runs [] (Free ends values ∷ children) site path h = refl
child_down flat runs (s ∷ sites) (Node i ∷ children) site path h =
    let parts = and_parts (not (has_number sites s)) (numbers_differ sites) h in
    by_test (nat_eq s site) refl (not-true (has_number sites s) parts.0) (child_down flat runs sites children site path parts.1)
  where
    by_test : (b : Bool) → nat_eq s site ≡ b → has_number sites s ≡ false → goes_below (below_of runs children) flat sites site path ≡ down_at flat runs path (child_for sites children site) →
        ((b && goes_down (slice_index_or runs i stray) flat path) || goes_below (below_of runs children) flat sites site path) ≡ down_at flat runs path (if b then Some i else child_for sites children site)
    by_test true e out rest =
        ap (λ b. goes_down (slice_index_or runs i stray) flat path || b) (none_after (below_of runs children) flat sites site path (subst (λ (x : ℕ). has_number sites x ≡ false) (eqb-true s site e) out))
        ∙ or_no (goes_down (slice_index_or runs i stray) flat path)
    by_test false e out rest = rest
child_down flat runs (s ∷ sites) (Free ends values ∷ children) site path h =
    let parts = and_parts (not (has_number sites s)) (numbers_differ sites) h in
    by_test (nat_eq s site) refl (not-true (has_number sites s) parts.0) (child_down flat runs sites children site path parts.1)
  where
    by_test : (b : Bool) → nat_eq s site ≡ b → has_number sites s ≡ false → goes_below (below_of runs children) flat sites site path ≡ down_at flat runs path (child_for sites children site) →
        goes_below (below_of runs children) flat sites site path ≡ down_at flat runs path (if b then None else child_for sites children site)
    by_test true e out rest = none_after (below_of runs children) flat sites site path (subst (λ (x : ℕ). has_number sites x ≡ false) (eqb-true s site e) out)
    by_test false e out rest = rest

-- ---- numbers of nodes

fit_at : (k high : ℕ) (nodes : List RunNode) (i : ℕ) (n : RunNode) → nodes_fit k high nodes ≡ true → slice_get nodes i ≡ Some n → list_all (is_child (k + i) high) n.children ≡ true
fit_at k high [] i n h at = cc
fit_at k high (m ∷ nodes) zero n h at =
    let same : m ≡ n = cc in
    let e : k ≡ k + 0 = omega arith in
    subst (λ (j : ℕ). list_all (is_child j high) n.children ≡ true) e
    (subst (λ (x : RunNode). list_all (is_child k high) x.children ≡ true) same (and_parts (list_all (is_child k high) m.children) (nodes_fit (k + 1) high nodes) h).0)
fit_at k high (m ∷ nodes) (suc i) n h at =
    let e : k + 1 + i ≡ k + suc i = omega arith in
    subst (λ (j : ℕ). list_all (is_child j high) n.children ≡ true) e (fit_at (k + 1) high nodes i n (and_parts (list_all (is_child k high) m.children) (nodes_fit (k + 1) high nodes) h).1 at)

-- the node of a child is one
child_within : (k high : ℕ) (sites : List ℕ) (cs : List Child) (site i : ℕ) → list_all (is_child k high) cs ≡ true → child_for sites cs site ≡ Some i → i < high
child_within k high [] cs site i h at = cc
child_within k high (s ∷ sites) [] site i h at = cc
child_within k high (s ∷ sites) (c ∷ cs) site i h at =
    let parts = and_parts (is_child k high c) (list_all (is_child k high) cs) h in
    by_test (nat_eq s site) (λ e. child_within k high sites cs site i parts.1 e) at
  where
    here : (c : Child) → is_child k high c ≡ true → node_of c ≡ Some i → i < high
    here (Node j) h e = let same : j ≡ i = cc in subst (λ (n : ℕ). n < high) same (ltb-true j high (and_parts (nat_lt k j) (nat_lt j high) h).1)
    here (Free ends values) h e = cc

    by_test : (b : Bool) → (child_for sites cs site ≡ Some i → i < high) → (if b then node_of c else child_for sites cs site) ≡ Some i → i < high
    by_test true go e = here c (and_parts (is_child k high c) (list_all (is_child k high) cs) h).0 e
    by_test false go e = go e

get_there : {X : Type 0} (xs : List X) (i : ℕ) → i < length xs → (x : X) × (slice_get xs i ≡ Some x)
get_there [] i h = absurd (not-suc-le-zero h)
get_there (x ∷ xs) zero h = (x, refl)
get_there (x ∷ xs) (suc i) h = get_there xs i (omega arith)

-- ---- the run below

-- the child at a site is a run tree
child_run : (flat : FlatProgram) (consts : List Value) (runs : List Run) (sites : List ℕ) (cs : List Child) (site i : ℕ) (calls : List Request) (results : List Result) →
    Answer (below_of runs cs) flat Never consts calls results → child_for sites cs site ≡ Some i → IsRunTree flat (slice_index_or runs i stray)
child_run flat consts runs [] cs site i calls results h at = cc
child_run flat consts runs (s ∷ sites) [] site i calls results h at = cc
child_run flat consts runs (s ∷ sites) (Node j ∷ cs) site i [] results h at = absurd h
child_run flat consts runs (s ∷ sites) (Node j ∷ cs) site i (call ∷ calls) [] h at = absurd h
child_run flat consts runs (s ∷ sites) (Node j ∷ cs) site i (call ∷ calls) (result ∷ results) ((q, begin, begins, means), rest) at =
    by_test (nat_eq s site) (λ e. child_run flat consts runs sites cs site i calls results rest e) at
  where
    by_test : (b : Bool) → (child_for sites cs site ≡ Some i → IsRunTree flat (slice_index_or runs i stray)) → (if b then Some j else child_for sites cs site) ≡ Some i → IsRunTree flat (slice_index_or runs i stray)
    by_test true go e =
        let same : j ≡ i = cc in
        subst (λ (n : ℕ). IsRunTree flat (slice_index_or runs n stray)) same (record { proc = q; consts = consts; begin = begin; result = result; proc_is = begins.proc; means = means })
    by_test false go e = go e
child_run flat consts runs (s ∷ sites) (Free ends values ∷ cs) site i [] results h at = absurd h
child_run flat consts runs (s ∷ sites) (Free ends values ∷ cs) site i (call ∷ calls) [] h at = absurd h
child_run flat consts runs (s ∷ sites) (Free ends values ∷ cs) site i (call ∷ calls) (result ∷ results) h at = absurd h.0

-- ---- along a path

-- So far: the run of the node at hand is a run tree, and the rest of the path is looked for in it.
pub record IsAt (flat : FlatProgram) (nodes : List RunNode) (path : List ℕ) (index at : ℕ) : Type 0 where
  pub there : at < length nodes
  pub tree : IsRunTree flat (run_at nodes at)
  pub left : reaches flat (run_of nodes) path ≡ goes_down (run_at nodes at) flat (drop index path)

drop_none : (path : List ℕ) → drop 0 path ≡ path
drop_none [] = refl
drop_none (x ∷ path) = refl

-- at the root
pub at_root : (flat : FlatProgram) (nodes : List RunNode) (path : List ℕ) → (are_nodes nodes && are_whole_nodes nodes) ≡ true → IsRunTree flat (run_of nodes) → IsAt flat nodes path 0 0
at_root flat nodes path fit tree = record {
  there = ltb-true 0 (length nodes) (and_parts (nat_lt 0 (length nodes)) (nodes_fit 0 (length nodes) nodes) (and_parts (are_nodes nodes) (are_whole_nodes nodes) fit).0).0;
  tree = tree;
  left = reached_is (run_of nodes) flat path ∙ ap (λ p. goes_down (run_of nodes) flat p) (sym (drop_none path));
}

-- what stands below the node at hand
record IsBelow (flat : FlatProgram) (nodes : List RunNode) (path : List ℕ) (index at site : ℕ) (n : RunNode) : Type 0 where
  is : slice_get nodes at ≡ Some n
  fits : list_all (is_child (0 + at) (length nodes)) n.children ≡ true
  tree : IsRunTree flat (node (track_at n) (below_of (runs_of 0 nodes) n.children))
  left : reaches flat (run_of nodes) path ≡ down_at flat (runs_of 0 nodes) (drop (index + 1) path) (child_for (sites_passed (blocks_of (slice_get flat.procs n.proc)) n.path) n.children site)

below_node : (flat : FlatProgram) (nodes : List RunNode) (path : List ℕ) (index at site : ℕ) → OnceLaw → NodesAreRuns → IsFlat flat → (are_nodes nodes && are_whole_nodes nodes) ≡ true → IsAt flat nodes path index at →
    index < length path → site ≡ slice_index_or path index site → (n : RunNode) × IsBelow flat nodes path index at site n
below_node flat nodes path index at site once runs_law flat_is fit a there is =
    let found = get_there nodes at a.there in
    let n = found.0 in
    let runs = runs_of 0 nodes in
    let blocks = blocks_of (slice_get flat.procs n.proc) in
    let are = (and_parts (are_nodes nodes) (are_whole_nodes nodes) fit).0 in
    let fits = fit_at 0 (length nodes) nodes at n (and_parts (nat_lt 0 (length nodes)) (nodes_fit 0 (length nodes) nodes) are).1 found.1 in
    let run_is = (runs_law nodes are).1 at n found.1 in
    let tree : IsRunTree flat (node (track_at n) (below_of runs n.children)) = subst (λ (r : Run). IsRunTree flat r) run_is a.tree in
    let differ : numbers_differ (sites_passed blocks n.path) ≡ true =
    subst (λ (o : Option FlatProc). numbers_differ (sites_passed (blocks_of o) n.path) ≡ true) (sym tree.proc_is)
    (once flat n.proc tree.proc tree.consts (track_at n) tree.begin tree.means.0 tree.means.1 tree.result flat_is tree.proc_is tree.means.2) in (
      n,
      record {
        is = found.1;
        fits = fits;
        tree = tree;
        left = a.left ∙ ap (λ r. goes_down r flat (drop index path)) run_is ∙ ap (λ p. goes_down (node (track_at n) (below_of runs n.children)) flat p) (next_of path index site there is)
            ∙ child_down flat runs (sites_passed blocks n.path) n.children site (drop (index + 1) path) differ;
      },
    )

-- one site further
pub at_next : (flat : FlatProgram) (nodes : List RunNode) (path : List ℕ) (index at site next : ℕ) (answer : Option ℕ) → OnceLaw → NodesAreRuns → IsFlat flat → (are_nodes nodes && are_whole_nodes nodes) ≡ true → IsAt flat nodes path index at →
    index < length path → site ≡ slice_index_or path index site →
    ((n : RunNode) → slice_get nodes at ≡ Some n → answer ≡ child_for (sites_passed (blocks_of (slice_get flat.procs n.proc)) n.path) n.children site) → answer ≡ Some next → IsAt flat nodes path (index + 1) next
at_next flat nodes path index at site next answer once runs_law flat_is fit a there is child found =
    let b = below_node flat nodes path index at site once runs_law flat_is fit a there is in
    let n = b.0 in
    let sites = sites_passed (blocks_of (slice_get flat.procs n.proc)) n.path in
    let is_next : child_for sites n.children site ≡ Some next = sym (child n b.1.is) ∙ found in
    record {
      there = child_within (0 + at) (length nodes) sites n.children site next b.1.fits is_next;
      tree = child_run flat b.1.tree.consts (runs_of 0 nodes) sites n.children site next b.1.tree.means.1 b.1.tree.means.0 b.1.tree.means.3 is_next;
      left = b.1.left ∙ ap (λ o. down_at flat (runs_of 0 nodes) (drop (index + 1) path) o) is_next;
    }

-- no child is there
pub at_none : (flat : FlatProgram) (nodes : List RunNode) (path : List ℕ) (index at site : ℕ) (answer : Option ℕ) → OnceLaw → NodesAreRuns → IsFlat flat → (are_nodes nodes && are_whole_nodes nodes) ≡ true → IsAt flat nodes path index at →
    index < length path → site ≡ slice_index_or path index site →
    ((n : RunNode) → slice_get nodes at ≡ Some n → answer ≡ child_for (sites_passed (blocks_of (slice_get flat.procs n.proc)) n.path) n.children site) → answer ≡ None → false ≡ reaches flat (run_of nodes) path
at_none flat nodes path index at site answer once runs_law flat_is fit a there is child out =
    let b = below_node flat nodes path index at site once runs_law flat_is fit a there is in
    sym (b.1.left ∙ ap (λ o. down_at flat (runs_of 0 nodes) (drop (index + 1) path) o) (sym (child b.0 b.1.is) ∙ out))

-- at the end of the path
pub at_end : (flat : FlatProgram) (nodes : List RunNode) (path : List ℕ) (index at : ℕ) → IsAt flat nodes path index at → length path ≤ index → true ≡ reaches flat (run_of nodes) path
at_end flat nodes path index at a all = sym (a.left ∙ ap (λ p. goes_down (run_at nodes at) flat p) (drop_whole path index all) ∙ here (run_at nodes at))
  where
    here : (run : Run) → goes_down run flat [] ≡ true
    here (node track below) = refl

    drop_whole : (xs : List ℕ) (n : ℕ) → length xs ≤ n → drop n xs ≡ []
    drop_whole [] zero h = refl
    drop_whole [] (suc n) h = refl
    drop_whole (x ∷ xs) zero h = absurd (not-suc-le-zero h)
    drop_whole (x ∷ xs) (suc n) h = drop_whole xs n (omega arith)

-- ---- a procedure that is not there has no sites

pub no_sites : (path : List ℕ) → sites_passed [] path ≡ []
no_sites [] = refl
no_sites (b ∷ path) = no_sites path

past : (procs : List FlatProc) (p : ℕ) → length procs ≤ p → slice_get procs p ≡ None
past [] p h = refl
past (q ∷ procs) zero h = absurd (not-suc-le-zero h)
past (q ∷ procs) (suc p) h = past procs p (omega arith)

pub no_child : (flat : FlatProgram) (procs : List FlatProc) (p : ℕ) (path : List ℕ) (children : List Child) (site : ℕ) → procs ≡ flat.procs → false ≡ nat_lt p (length procs) →
    None ≡ child_for (sites_passed (blocks_of (slice_get flat.procs p)) path) children site
no_child flat procs p path children site are out =
    let none : slice_get flat.procs p ≡ None = subst (λ (qs : List FlatProc). slice_get qs p ≡ None) are (past procs p (ltb-false p (length procs) (sym out))) in
    sym (ap (λ o. child_for (sites_passed (blocks_of o) path) children site) none ∙ ap (λ xs. child_for xs children site) (no_sites path))
