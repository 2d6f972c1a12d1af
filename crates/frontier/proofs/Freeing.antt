-- The free children of a run, found node by node.
use Rattle.std.proofs.Common.{◌≡◌, ℕ, zero, suc, ◌+◌, ◌<◌, Bool, true, false, ◌||◌, List, [], ◌∷◌, ◌++◌, length, drop, slice_get, slice_index_or, Option, None, Some, bytes_eq, refl, sym, ap, ◌∙◌, arith, IsTrue}
use Rattle.flat_prog.specs.Laws.{below_of, NodesAreRuns}
use Rattle.flat_prog.specs.Nodes.{are_nodes, runs_of, stray}
use Rattle.flat_prog.specs.Program.{FlatProgram}
use Rattle.flat_prog.specs.Trees.{Run}
use Rattle.flat_prog.specs.declared.run.Child.{Child}
use Rattle.flat_prog.specs.declared.run.Child.TheVariants.{Node, Free}
use Rattle.flat_prog.specs.declared.run.RunNode.{RunNode}
use Rattle.call_tree.specs.Questions.{frees_of, frees_below}
use Rattle.call_tree.specs.Trees.{has_path}
use Rattle.frontier.specs.declared.passing.Standing.{Standing}
use Rattle.frontier.specs.Passed.{is_left, has_free, frees_by, frees_at, site_tables}
use Rattle.frontier.proofs.Lists.{drop_next}
use Rattle.frontier.proofs.Paths.{has-append, or_none, or_assoc}
use Rattle.frontier.proofs.Counting.{passed_is}

or_swap : (a b c : Bool) → ((a || b) || c) ≡ ((a || c) || b)
or_swap true b c = refl
or_swap false true true = refl
or_swap false true false = refl
or_swap false false true = refl
or_swap false false false = refl

-- ---- one more

left_append : (flat : FlatProgram) (runs : List Run) (xs ys : List Standing) (p : List ℕ) → is_left flat runs (xs ++ ys) p ≡ (is_left flat runs xs p || is_left flat runs ys p)
left_append flat runs [] ys p = refl
left_append flat runs (x ∷ xs) ys p =
    ap (λ (b : Bool). has_path (frees_of (slice_index_or runs x.node stray) flat x.path) p || b) (left_append flat runs xs ys p)
    ∙ or_assoc (has_path (frees_of (slice_index_or runs x.node stray) flat x.path) p) (is_left flat runs xs p) (is_left flat runs ys p)

left_more : (flat : FlatProgram) (runs : List Run) (left : List Standing) (s : Standing) (free : List (List ℕ)) (p : List ℕ) →
    has_free flat runs (left ++ s ∷ []) free p ≡ (has_free flat runs left free p || has_path (frees_of (slice_index_or runs s.node stray) flat s.path) p)
left_more flat runs left s free p =
    let x = has_path (frees_of (slice_index_or runs s.node stray) flat s.path) p in
    ap (λ (b : Bool). has_path free p || b) (left_append flat runs left (s ∷ []) p)
    ∙ (or_assoc (has_path free p) (is_left flat runs left p) (x || false) ∙ ap (λ (b : Bool). has_free flat runs left free p || b) (or_none x))

-- a child that is a node
pub node_pushed : (flat : FlatProgram) (runs : List Run) (p path : List ℕ) (site : ℕ) (child : Child) (s : Standing) (left new : List Standing) (free : List (List ℕ)) → child ≡ Node s.node → s.path ≡ path ++ site ∷ [] →
    new ≡ left ++ s ∷ [] → has_free flat runs new free p ≡ (has_free flat runs left free p || has_path (frees_below (below_of runs (child ∷ [])) flat path (site ∷ [])) p)
node_pushed flat runs p path site child s left new free is at step =
    let run = slice_index_or runs s.node stray in
    ap (λ (ls : List Standing). has_free flat runs ls free p) step
    ∙ (left_more flat runs left s free p
    ∙ ap (λ (b : Bool). has_free flat runs left free p || b)
    (ap (λ (q : List ℕ). has_path (frees_of run flat q) p) at
    ∙ (sym (or_none (has_path (frees_of run flat (path ++ site ∷ [])) p))
    ∙ (sym (has-append (frees_of run flat (path ++ site ∷ [])) [] p)
    ∙ ap (λ (c : Child). has_path (frees_below (below_of runs (c ∷ [])) flat path (site ∷ [])) p) (sym is)))))

-- a child that is free
pub free_pushed : (flat : FlatProgram) (runs : List Run) (p path : List ℕ) (site : ℕ) (next : List ℕ) (left : List Standing) (free new : List (List ℕ)) (below : List (List ℕ)) → below ≡ (path ++ site ∷ []) ∷ [] → next ≡ path ++ site ∷ [] →
    new ≡ free ++ next ∷ [] → has_free flat runs left new p ≡ (has_free flat runs left free p || has_path below p)
free_pushed flat runs p path site next left free new below is at step =
    ap (λ (fs : List (List ℕ)). has_free flat runs left fs p) step
    ∙ (ap (λ (b : Bool). b || is_left flat runs left p) (has-append free (next ∷ []) p)
    ∙ (or_swap (has_path free p) (has_path (next ∷ []) p) (is_left flat runs left p)
    ∙ (ap (λ (q : List ℕ). has_free flat runs left free p || has_path (q ∷ []) p) at ∙ ap (λ (b : List (List ℕ)). has_free flat runs left free p || has_path b p) (sym is))))

-- ---- one child after the other

one_more : (flat : FlatProgram) (runs : List Run) (p path : List ℕ) (c : Child) (cs : List Child) (s : ℕ) (ss : List ℕ) →
    has_path (frees_below (below_of runs (c ∷ cs)) flat path (s ∷ ss)) p ≡ (has_path (frees_below (below_of runs (c ∷ [])) flat path (s ∷ [])) p || has_path (frees_below (below_of runs cs) flat path ss) p)
one_more flat runs p path (Node i) cs s ss =
    let here = frees_of (slice_index_or runs i stray) flat (path ++ s ∷ []) in
    has-append here (frees_below (below_of runs cs) flat path ss) p
    ∙ ap (λ (b : Bool). b || has_path (frees_below (below_of runs cs) flat path ss) p) (sym (or_none (has_path here p)) ∙ sym (has-append here [] p))
one_more flat runs p path (Free ends values) cs s ss = ap (λ (b : Bool). b || has_path (frees_below (below_of runs cs) flat path ss) p) (sym (or_none (bytes_eq (path ++ s ∷ []) p)))

drop_got : (xs : List ℕ) (i s : ℕ) → slice_get xs i ≡ Some s → drop i xs ≡ s ∷ drop (i + 1) xs
drop_got [] i s h = absurd cc
drop_got (x ∷ xs) zero s h = let e : x ≡ s = cc in ap (λ (y : ℕ). y ∷ xs) e
drop_got (x ∷ xs) (suc i) s h =
    let e : suc (i + 1) ≡ suc i + 1 = omega arith in
    drop_got xs i s h ∙ ap (λ (n : ℕ). s ∷ drop n (x ∷ xs)) e

pub child_more : (flat : FlatProgram) (runs : List Run) (p path sites : List ℕ) (children : List Child) (i site : ℕ) (child : Child) (old now new all : Bool) → i < length children → child ≡ slice_index_or children i child →
    slice_get sites i ≡ Some site → (now || has_path (frees_below (below_of runs (drop i children)) flat path (drop i sites)) p) ≡ (old || all) →
    new ≡ (now || has_path (frees_below (below_of runs (child ∷ [])) flat path (site ∷ [])) p) →
    (new || has_path (frees_below (below_of runs (drop (i + 1) children)) flat path (drop (i + 1) sites)) p) ≡ (old || all)
child_more flat runs p path sites children i site child old now new all h is at before step =
    let here = has_path (frees_below (below_of runs (child ∷ [])) flat path (site ∷ [])) p in
    let rest = has_path (frees_below (below_of runs (drop (i + 1) children)) flat path (drop (i + 1) sites)) p in
    ap (λ (b : Bool). b || rest) step
    ∙ (sym (or_assoc now here rest)
    ∙ (ap (λ (b : Bool). now || b)
    (sym (one_more flat runs p path child (drop (i + 1) children) site (drop (i + 1) sites))
    ∙ (ap (λ (cs : List Child). has_path (frees_below (below_of runs cs) flat path (site ∷ drop (i + 1) sites)) p) (sym (drop_next children i child h is))
    ∙ ap (λ (ss : List ℕ). has_path (frees_below (below_of runs (drop i children)) flat path ss) p) (sym (drop_got sites i site at))))
    ∙ before))

-- ---- one node after the other

stray_at : (m : ℕ) (ns : List RunNode) (i : ℕ) → slice_get ns i ≡ None → slice_index_or (runs_of m ns) i stray ≡ stray
stray_at m [] i h = refl
stray_at m (n ∷ ns) zero h = absurd cc
stray_at m (n ∷ ns) (suc i) h = stray_at (m + 1) ns i h

frees_are : (flat : FlatProgram) (nodes : List RunNode) (i : ℕ) (path : List ℕ) (o : Option RunNode) → NodesAreRuns → IsTrue (are_nodes nodes) → slice_get nodes i ≡ o →
    frees_by flat (runs_of 0 nodes) (site_tables flat.procs) o path ≡ frees_of (slice_index_or (runs_of 0 nodes) i stray) flat path
frees_are flat nodes i path None law are at = ap (λ (r : Run). frees_of r flat path) (sym (stray_at 0 nodes i at))
frees_are flat nodes i path (Some n) law are at =
    ap (λ (ss : List ℕ). frees_below (below_of (runs_of 0 nodes) n.children) flat path ss) (passed_is flat.procs n.proc n.path) ∙ ap (λ (r : Run). frees_of r flat path) (sym ((law nodes are).1 i n at))

pub node_more : (flat : FlatProgram) (nodes : List RunNode) (tables : List (List (List ℕ))) (p : List ℕ) (s : Standing) (before left new : List Standing) (free more : List (List ℕ)) (all : Bool) → NodesAreRuns → IsTrue (are_nodes nodes) →
    tables ≡ site_tables flat.procs → before ≡ left ++ s ∷ [] → has_free flat (runs_of 0 nodes) before free p ≡ all →
    has_free flat (runs_of 0 nodes) new more p ≡ (has_free flat (runs_of 0 nodes) left free p || has_path (frees_at flat (runs_of 0 nodes) tables nodes s) p) → has_free flat (runs_of 0 nodes) new more p ≡ all
node_more flat nodes tables p s before left new free more all law are tables_are popped was step =
    let runs = runs_of 0 nodes in
    step
    ∙ (ap (λ (fs : List (List ℕ)). has_free flat runs left free p || has_path fs p)
    (ap (λ (ts : List (List (List ℕ))). frees_at flat runs ts nodes s) tables_are ∙ frees_are flat nodes s.node s.path (slice_get nodes s.node) law are refl)
    ∙ (sym (left_more flat runs left s free p) ∙ (ap (λ (ls : List Standing). has_free flat runs ls free p) (sym popped) ∙ was)))

-- ---- where no site is left

drop_none : (xs : List ℕ) (i : ℕ) → slice_get xs i ≡ None → drop i xs ≡ []
drop_none [] zero h = refl
drop_none [] (suc i) h = refl
drop_none (x ∷ xs) zero h = absurd cc
drop_none (x ∷ xs) (suc i) h = drop_none xs i h

none_below : (flat : FlatProgram) (runs : List Run) (p path : List ℕ) (cs : List Child) → has_path (frees_below (below_of runs cs) flat path []) p ≡ false
none_below flat runs p path [] = refl
none_below flat runs p path (Node i ∷ cs) = refl
none_below flat runs p path (Free ends values ∷ cs) = refl

pub child_none : (flat : FlatProgram) (runs : List Run) (p path sites : List ℕ) (children : List Child) (i : ℕ) (now all : Bool) → slice_get sites i ≡ None →
    (now || has_path (frees_below (below_of runs (drop i children)) flat path (drop i sites)) p) ≡ all → now ≡ all
child_none flat runs p path sites children i now all at before =
    sym (or_none now)
    ∙ (ap (λ (b : Bool). now || b) (sym (none_below flat runs p path (drop i children)) ∙ ap (λ (ss : List ℕ). has_path (frees_below (below_of runs (drop i children)) flat path ss) p) (sym (drop_none sites i at))) ∙ before)
