-- Each event keeps that the trees are partial trees, and that the pieces name nodes of them, each once.
use Rattle.std.proofs.Common.{◌≡◌, ℕ, Bool, true, false, not, ◌&&◌, ◌||◌, cond, List, [], ◌∷◌, ◌++◌, set, slice_get, refl, sym, ap, ◌∙◌, subst, Some, nat_eq, eq-eqb}
use Rattle.std.specs.Prelude.{Option, None, All, bytes_eq, IsTrue}
use Rattle.std.specs.List.{list_all, starts_with}
use Rattle.std.proofs.lemmas.Bool.{and_parts, and_from, not-true, false_from_ne_true, both_ways, or_from}
use Rattle.std.proofs.lemmas.List.Elements.{All-set, All-append, All-cons, All-nil, All-get_or}
use Rattle.std.proofs.lemmas.Option.{slice_get_within, get_or_from_slice_get}
use Rattle.call_tree.specs.declared.piece.Decision2.{Decision2}
use Rattle.call_tree.specs.declared.piece.Decision2.TheVariants.{Must, Avoid}
use Rattle.call_tree.specs.Trees.{has_path, are_in, all_differ, IsPartTree, open_of}
use Rattle.call_tree.specs.Pieces.{names_of, settles, is_root, is_undecided, undecided_of}
use Rattle.call_tree.proofs.PartTrees.{path_is, are_in_more, are_in_snoc, differ_snoc, filter_has, part_tree_grown}
use Rattle.piece_core.specs.declared.tasks.Task.{Task}
use Rattle.piece_core.specs.declared.events.Event.{Event}
use Rattle.piece_core.specs.declared.events.Event.TheVariants.{Take, Inline, Split, Close, Found, Back}
use Rattle.piece_core.specs.declared.events.Entry.{Entry}
use Rattle.piece_core.specs.Shapes.{Shape, changed, half, made, after_at, after, has_some, can_grow, IsWell, fault_at}
use Rattle.piece_core.proofs.Table.{Lets, IsHere, here_of}

-- what a list has at a place
pub all_at : {X : Type 0} (P : X → Type 0) (xs : List X) (i : ℕ) (x : X) → slice_get xs i ≡ Some x → All P xs → P x
all_at P xs i x at h = subst P (get_or_from_slice_get xs i x x at) (All-get_or P xs i x (slice_get_within xs i x at) h)

same_number : (n : ℕ) → nat_eq n n ≡ true
same_number n = eq-eqb n n refl

starts_itself : (p : List ℕ) → starts_with nat_eq p p ≡ true
starts_itself [] = refl
starts_itself (x ∷ xs) = and_from (nat_eq x x) (starts_with nat_eq xs xs) (same_number x) (starts_itself xs)

names_more : (piece : List (List ℕ × Decision2)) (site : List ℕ) (way : Decision2) → names_of (piece ++ (site, way) ∷ []) ≡ names_of piece ++ site ∷ []
names_more [] site way = refl
names_more ((path, w) ∷ ds) site way = ap (λ (ps : List (List ℕ)). path ∷ ps) (names_more ds site way)

-- a decision settles the path that it names
settles_itself : (path : List ℕ) (way : Decision2) → settles path (path, way) ≡ true
settles_itself path Must = starts_itself path
settles_itself path Avoid = starts_itself path

unnamed : (path : List ℕ) (piece : List (List ℕ × Decision2)) → list_all (λ d. not (settles path d)) piece ≡ true → has_path (names_of piece) path ≡ false
unnamed path [] h = refl
unnamed path ((named, way) ∷ ds) h =
    let parts = and_parts (not (settles path (named, way))) (list_all (λ d. not (settles path d)) ds) h in
    let one : bytes_eq named path ≡ false = false_from_ne_true (bytes_eq named path) (λ e. both_ways (settles path (named, way)) (not-true (settles path (named, way)) parts.0) (subst (λ (p : List ℕ). settles path (p, way) ≡ true) (sym (path_is named path e)) (settles_itself path way))) in
    or_from (bytes_eq named path) (has_path (names_of ds) path) one (unnamed path ds parts.1)

well_half : (task : Task) (s : Shape) (holder : Option ℕ) (site : List ℕ) (way : Decision2) → IsWell task s → has_path (undecided_of s.tree s.piece) site ≡ true → IsWell task (half s holder site way)
well_half task s holder site way well free =
    let found = filter_has (is_undecided s.piece) s.tree site free in
    let parts = and_parts (not (is_root site)) (list_all (λ d. not (settles site d)) s.piece) found.0 in
    record {
      tree = well.tree;
      named = subst (λ (ps : List (List ℕ)). are_in ps s.tree ≡ true) (sym (names_more s.piece site way)) (are_in_snoc (names_of s.piece) s.tree site well.named found.1);
      once = subst (λ (ps : List (List ℕ)). all_differ ps ≡ true) (sym (names_more s.piece site way)) (differ_snoc (names_of s.piece) site well.once (unnamed site s.piece parts.1));
    }

-- what can be inlined
pub can_parts : (task : Task) (tree sites : List (List ℕ)) → can_grow task tree sites ≡ true → (has_some sites ≡ true) × (are_in sites (open_of task.flat task.entry task.bound tree) ≡ true) × (all_differ sites ≡ true)
can_parts task tree sites h =
    let a = and_parts (has_some sites) (are_in sites (open_of task.flat task.entry task.bound tree) && all_differ sites) h in
    let b = and_parts (are_in sites (open_of task.flat task.entry task.bound tree)) (all_differ sites) a.1 in
    (a.0, b.0, b.1)

pub well_changed : (task : Task) (s : Shape) (w : ℕ) (event : Event) → Lets task s w event → IsWell task s → IsWell task (changed s w event)
well_changed task s w Take lets well = record { tree = well.tree; named = well.named; once = well.once }
well_changed task s w (Inline sites) (held, undue, can) well =
    let parts = can_parts task s.tree sites can in
    record {
      tree = part_tree_grown task.flat task.entry task.bound s.tree sites well.tree parts.1 parts.2;
      named = are_in_more (names_of s.piece) s.tree sites well.named;
      once = well.once;
    }
well_changed task s w (Split site) lets well = record { tree = well.tree; named = well.named; once = well.once }
well_changed task s w Close lets well = record { tree = well.tree; named = well.named; once = well.once }
well_changed task s w Found lets well = record { tree = well.tree; named = well.named; once = well.once }
well_changed task s w Back lets well = record { tree = well.tree; named = well.named; once = well.once }

pub well_made : (task : Task) (s : Shape) (w : ℕ) (event : Event) → Lets task s w event → IsWell task s → All (IsWell task) (made s w event)
well_made task s w Take lets well = All-nil (IsWell task)
well_made task s w (Inline sites) lets well = All-nil (IsWell task)
well_made task s w (Split site) (held, due, free) well =
    All-cons (IsWell task) (half s (Some w) site Must) (half s None site Avoid ∷ []) (well_half task s (Some w) site Must well free)
    (All-cons (IsWell task) (half s None site Avoid) [] (well_half task s None site Avoid well free) (All-nil (IsWell task)))
well_made task s w Close lets well = All-nil (IsWell task)
well_made task s w Found lets well = All-nil (IsWell task)
well_made task s w Back lets well = All-nil (IsWell task)

-- what is true of all nodes before is true of all nodes after, where it is so of the leaf and of what is made
pub all_after : (P : Shape → Type 0) (nodes : List Shape) (e : Entry) (s : Shape) → slice_get nodes e.node ≡ Some s → P (changed s e.worker e.event) → All P (made s e.worker e.event) → All P nodes → All P (after nodes e)
all_after P nodes e s at new more all =
    subst (λ (o : Option Shape). All P (after_at nodes e o)) (sym at)
    (All-append P (set nodes e.node (changed s e.worker e.event)) (made s e.worker e.event) (All-set P nodes e.node (changed s e.worker e.event) new all) more)

pub well_after : (task : Task) (nodes : List Shape) (e : Entry) → fault_at task (slice_get nodes e.node) e ≡ None → All (IsWell task) nodes → All (IsWell task) (after nodes e)
well_after task nodes e h well =
    let here = here_of task nodes e h in
    let own = all_at (IsWell task) nodes e.node here.shape here.at well in
    all_after (IsWell task) nodes e here.shape here.at (well_changed task here.shape e.worker e.event here.lets own) (well_made task here.shape e.worker e.event here.lets own) well
