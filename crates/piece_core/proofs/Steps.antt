-- What each event leaves of a book.
use Rattle.std.proofs.Common.{drop, ◌≡◌, ℕ, zero, suc, ◌+◌, ◌-◌, ◌<◌, ◌≤◌, Bool, true, false, ◌&&◌, cond, List, [], ◌∷◌, ◌++◌, length, set, slice_get, refl, sym, ap, ap₂, ◌∙◌, subst, arith, Some, append-nil, length-append, le_refl}
use Rattle.std.specs.Prelude.{count_by, sum_by, Option, None, All, map, IsTrue}
use Rattle.std.specs.Arc.{arc_value}
use Rattle.flat_prog.specs.Shape.{IsFlat}
use Rattle.flat_prog.specs.Trees.{Run}
use Rattle.flat_prog.specs.Nodes.{run_of}
use Rattle.flat_prog.specs.declared.run.RunNode.{RunNode}
use Rattle.cnf_form.specs.declared.refuted.Refuted.{Refuted}
use Rattle.std.proofs.lemmas.Option.{none-some, same_Some}
use Rattle.std.proofs.lemmas.List.Elements.{All-cons, All-nil, All-head, All-tail}
use Rattle.call_tree.specs.declared.piece.Decision2.{Decision2}
use Rattle.call_tree.specs.declared.piece.Decision2.TheVariants.{Must, Avoid}
use Rattle.piece_core.specs.declared.tasks.Task.{Task}
use Rattle.piece_core.specs.declared.events.Event.{Event}
use Rattle.piece_core.specs.declared.events.Event.TheVariants.{Take, Inline, Split, Close, Found, Back}
use Rattle.piece_core.specs.declared.events.Entry.{Entry}
use Rattle.piece_core.specs.declared.sights.Sight.{Sight}
use Rattle.piece_core.specs.declared.leaves.StatusKind.{StatusKind}
use Rattle.piece_core.specs.declared.leaves.StatusKind.TheVariants.{Live as LiveKind}
use Rattle.piece_core.specs.declared.leaves.Status2.{Status2}
use Rattle.piece_core.specs.declared.leaves.Status2.TheVariants.{Live, Closed as ClosedNode, Found as FoundNode, Split as SplitNode}
use Rattle.piece_core.specs.declared.leaves.Leaf.{Leaf}
use Rattle.piece_core.specs.Shapes.{Shape, first, root_alone, Ask, AskAt, Legal, changed, made, after, replay, opening, IsWell, Covers, is_live, fault_at}
use Rattle.piece_core.specs.Evidence.{Asks, kind_of, shape_of, shapes_of, Evidence, IsFine, IsLazy, MayInline, MaySplit, Closes, Under}
use Rattle.piece_core.specs.Halves.{HasHalves, split_of, site_of, AreHalves, firsts_with}
use Rattle.piece_core.specs.Measures.{potential, is_progress, paths_count}
use Rattle.piece_core.specs.Book.{IsSoundFor, IsIndexed, settled_of, live_leaf, Opens, leaf_with, written_at, written, entry, IsSound, IsKept, is_held, is_taken, first_found, opening_leaves, IsFoundFirst}
use Rattle.piece_core.proofs.Table.{Lets, IsHere, no_fault}
use Rattle.piece_core.proofs.Cover.{sum_set, sum_after}
use Rattle.piece_core.proofs.Journal.{legal_more, replay_more, covers, whole_well}
use Rattle.piece_core.proofs.Shaping.{map_get, shapes_written, fine_written}
use Rattle.piece_core.proofs.Well.{all_at}
use Rattle.piece_core.proofs.Halves.{halves_written}
use Rattle.piece_core.proofs.Kept.{first_stands}
use Rattle.piece_core.proofs.Settled.{still_settled, settled_moves}
use Rattle.piece_core.proofs.Finding.{found_with, found_more}
use Rattle.piece_core.proofs.Measure.{potential_falls, potential_stays}
use Rattle.piece_core.proofs.Seen.{Seen, Free, Taken}

-- ---- sound books

pub sound_of : (task : Task) (piece : List (List ℕ × Decision2)) (tree : List (List ℕ)) (nodes : List Leaf) (entries : List Entry) → Opens task → IsWell task (first piece tree) → Legal (Asks task) task (opening piece tree) entries
    → replay (opening piece tree) entries ≡ shapes_of nodes → All (IsFine task) nodes → IsSoundFor task piece tree nodes entries
sound_of task piece tree nodes entries asked starts legal gives fine = record {
  asked = asked;
  starts = starts;
  legal = legal;
  gives = gives;
  fine = fine;
  covers = subst (Covers piece) gives (covers (Asks task) task piece tree entries legal);
  found = subst (λ (ns : List Shape). IsFoundFirst ns (first_found entries)) gives (first_stands (Asks task) task piece tree entries legal);
}

opening_fine : (task : Task) → Opens task → All (IsFine task) opening_leaves
opening_fine task asked =
    let w = whole_well task asked in
    All-cons (IsFine task) _ [] (record { well = record { tree = w.tree; named = w.named; once = w.once }; evidence = tt }) (All-nil (IsFine task))

pub kept_opening : (task : Task) (capacity : ℕ) → IsFlat task.flat → Opens task → IsKept task opening_leaves [] 0 capacity
kept_opening task capacity flat asked = record { flat_is = flat; sound = sound_of task [] root_alone opening_leaves [] asked (whole_well task asked) tt refl (opening_fine task asked); counts = refl; room = omega arith }

-- ---- one event

abbrev pub holds : Shape → ℕ
holds s = cond (is_held s) 1 0

abbrev whole : List Shape
whole = opening [] root_alone

-- the nodes are those after the entry, and the type keeps what it keeps
pub record Did (task : Task) (nodes : List Leaf) (entries : List Entry) (e : Entry) (status : Status2) (new : List Leaf) (held capacity : ℕ) : Type 0 where
  pub kept : IsKept task new (entries ++ e ∷ []) held capacity
  pub is : new ≡ written nodes e status
  pub falls : is_progress e.event ≡ true → potential (paths_count task) (shapes_of new) < potential (paths_count task) (shapes_of nodes)
  pub indexed : (firsts : List ℕ) (settled next : ℕ) (found : Option ℕ) → IsIndexed nodes entries firsts settled found → next ≡ settled + settled_of (drop settled new)
      → IsIndexed new (entries ++ e ∷ []) (firsts_with (split_of e.event) firsts e.node (length nodes)) next (found_with e.event e.node found)
  pub stays : is_progress e.event ≡ false → potential (paths_count task) (shapes_of new) ≡ potential (paths_count task) (shapes_of nodes)

-- what an event may do to a leaf
pub record IsRight (task : Task) (leaf : Leaf) (worker : ℕ) (event : Event) (status : Status2) : Type 0 where
  pub live : leaf.status ≡ Live
  pub lets : Lets task (shape_of leaf) worker event
  pub kind : kind_of status ≡ (changed (shape_of leaf) worker event).status
  pub names : split_of event ≡ site_of status
  pub asks : Asks task (shape_of leaf) event
  pub evidence : Evidence task (changed (shape_of leaf) worker event).tree (changed (shape_of leaf) worker event).piece status

well_shapes : (task : Task) (nodes : List Leaf) → All (IsFine task) nodes → All (IsWell task) (shapes_of nodes)
well_shapes task nodes fine = map_all nodes fine
  where
    map_all : (ns : List Leaf) → All (IsFine task) ns → All (IsWell task) (shapes_of ns)
    map_all [] all = All-nil (IsWell task)
    map_all (n ∷ ns) all = All-cons (IsWell task) (shape_of n) (shapes_of ns) (All-head (IsFine task) n ns all).well (map_all ns (All-tail (IsFine task) n ns all))

pub did : (task : Task) (nodes : List Leaf) (entries : List Entry) (held capacity : ℕ) (e : Entry) (status : Status2) (leaf : Leaf) (after_held after_capacity : ℕ) →
    slice_get nodes e.node ≡ Some leaf → IsRight task leaf e.worker e.event status → IsKept task nodes entries held capacity →
    after_held + holds (shape_of leaf) ≡ held + (holds (changed (shape_of leaf) e.worker e.event) + sum_by holds (made (shape_of leaf) e.worker e.event)) → length entries + 1 + after_held ≤ after_capacity →
    Did task nodes entries e status (written_at nodes e status (Some leaf)) after_held after_capacity
did task nodes entries held capacity e status leaf after_held after_capacity at right kept count room =
    let new = written_at nodes e status (Some leaf) in
    let old = shapes_of nodes in
    let at_shape = map_get shape_of nodes e.node leaf at in
    let same : shapes_of new ≡ after old e = shapes_written nodes e status leaf at right.kind in
    let live : kind_of leaf.status ≡ LiveKind = ap kind_of right.live in
    let here : IsHere task old e = record { shape = shape_of leaf; at = at_shape; live = live; lets = right.lets } in
    let fault = no_fault task old e here in
    let sound = kept.sound in
    let asked : AskAt (Asks task) (slice_get old e.node) e.event = subst (λ (o : Option Shape). AskAt (Asks task) o e.event) (sym at_shape) right.asks in
    let legal = legal_more (Asks task) task whole entries e sound.legal
    (subst (λ (ns : List Shape). fault_at task (slice_get ns e.node) e ≡ None) (sym sound.gives) fault)
    (subst (λ (ns : List Shape). AskAt (Asks task) (slice_get ns e.node) e.event) (sym sound.gives) asked) in
    let gives = replay_more whole entries e ∙ ap (λ (ns : List Shape). after ns e) sound.gives ∙ sym same in
    let sums = sum_after holds old e (shape_of leaf) at_shape in
    let counts : held ≡ sum_by holds old = kept.counts in
    let now : after_held ≡ sum_by holds (after old e) = omega (arith, sums, counts, count) in
    let long : length (entries ++ e ∷ []) ≡ length entries + 1 = length-append entries (e ∷ []) in
    record {
      kept = record {
        flat_is = kept.flat_is;
        sound = sound_of task [] root_alone new (entries ++ e ∷ []) sound.asked sound.starts legal gives (fine_written task nodes e status leaf at right.lets right.evidence sound.fine);
        counts = now ∙ ap (sum_by holds) (sym same);
        room = omega (arith, long, room);
      };
      is = sym (ap (written_at nodes e status) at);
      falls = λ progress. subst (λ (ns : List Shape). potential (paths_count task) ns < potential (paths_count task) old) (sym same) (potential_falls task old e kept.flat_is fault (well_shapes task nodes sound.fine) progress);
      indexed = λ firsts settled next found are moved. record {
        halves = halves_written task nodes e status leaf firsts at fault right.kind right.names are.halves;
        settled_is = moved ∙ sym (subst (λ n. settled_of new ≡ n + settled_of (drop n new)) (sym are.settled_is)
            (settled_moves nodes e.node leaf (leaf_with (changed (shape_of leaf) e.worker e.event) status) (map live_leaf (made (shape_of leaf) e.worker e.event)) at right.live));
        found_is = ap (found_with e.event e.node) are.found_is ∙ sym (found_more entries e);
      };
      stays = λ still. ap (potential (paths_count task)) same ∙ potential_stays task (paths_count task) old e fault still;
    }

-- ---- who holds a leaf

holds_one : (s : Shape) (by : ℕ) → s.status ≡ LiveKind → s.holder ≡ Some by → holds s ≡ 1
holds_one s by live held = ap₂ (λ (t : StatusKind) (o : Option ℕ). cond (is_live t && is_taken o) 1 0) live held

holds_none : (s : Shape) → s.status ≡ LiveKind → s.holder ≡ None → holds s ≡ 0
holds_none s live free = ap₂ (λ (t : StatusKind) (o : Option ℕ). cond (is_live t && is_taken o) 1 0) live free

-- a held live leaf is counted, so its event has memory
pub held_some : (task : Task) (nodes : List Leaf) (entries : List Entry) (held capacity : ℕ) (node : ℕ) (leaf : Leaf) (by : ℕ) → slice_get nodes node ≡ Some leaf → leaf.status ≡ Live → leaf.holder ≡ Some by → IsKept task nodes entries held capacity → (1 ≤ held) × (length entries < capacity)
held_some task nodes entries held capacity node leaf by at live taken kept =
    let free : Shape = record { piece = []; tree = []; inlined = 0; holder = None; status = LiveKind } in
    let sums : sum_by holds (set (shapes_of nodes) node free) + holds (shape_of leaf) ≡ sum_by holds (shapes_of nodes) + 0 = sum_set holds (shapes_of nodes) node (shape_of leaf) free (map_get shape_of nodes node leaf at) in
    let one : holds (shape_of leaf) ≡ 1 = holds_one (shape_of leaf) by (ap kind_of live) taken in
    let counts : held ≡ sum_by holds (shapes_of nodes) = kept.counts in
    let room = kept.room in
    let some : 1 ≤ held = omega (arith, sums, one, counts) in
    (some, omega (arith, room, some))

-- ---- each event

-- an event that makes no leaf
alone : (task : Task) (nodes : List Leaf) (entries : List Entry) (e : Entry) (status : Status2) (new : List Leaf) (held capacity : ℕ) → Did task nodes entries e status (new ++ []) held capacity → Did task nodes entries e status new held capacity
alone task nodes entries e status new held capacity h = subst (λ (n : List Leaf). Did task nodes entries e status n held capacity) (append-nil new) h

-- the status of a live leaf, written out
live_status : (nodes : List Leaf) (node : ℕ) (new : Leaf) → new.status ≡ Live → set nodes node (record new { status = Live }) ≡ set nodes node new
live_status nodes node new live = ap (λ (t : Status2). set nodes node (record new { status = t })) (sym live)

pub did_take : (task : Task) (nodes : List Leaf) (entries : List Entry) (held capacity after_capacity worker node : ℕ) (f : Free nodes node) → IsKept task nodes entries held capacity → length entries + 1 + (held + 1) ≤ after_capacity →
    Did task nodes entries (entry worker node Take) Live (set nodes node (record f.leaf { holder = Some worker })) (held + 1) after_capacity
did_take task nodes entries held capacity after_capacity worker node f kept room =
    let s = shape_of f.leaf in
    let before : holds s ≡ 0 = holds_none s (ap kind_of f.live) f.free in
    let now : holds (changed s worker Take) ≡ 1 = holds_one (changed s worker Take) worker (ap kind_of f.live) refl in
    let e = entry worker node Take in
    let right : IsRight task f.leaf worker Take Live = record { live = f.live; lets = f.free; kind = sym (ap kind_of f.live); names = refl; asks = tt; evidence = tt } in
    subst (λ (ns : List Leaf). Did task nodes entries e Live ns (held + 1) after_capacity) (live_status nodes node (record f.leaf { holder = Some worker }) f.live)
    (alone task nodes entries e Live (set nodes node (leaf_with (changed s worker Take) Live)) (held + 1) after_capacity
    (did task nodes entries held capacity e Live f.leaf (held + 1) after_capacity f.at right kept (omega (arith, before, now)) room))

pub did_back : (task : Task) (nodes : List Leaf) (entries : List Entry) (held capacity after_capacity worker node : ℕ) (t : Taken nodes node) → IsKept task nodes entries held capacity → capacity ≤ after_capacity →
    Did task nodes entries (entry worker node Back) Live (set nodes node (record t.leaf { holder = None })) (held - 1) after_capacity
did_back task nodes entries held capacity after_capacity worker node t kept more =
    let s = shape_of t.leaf in
    let before : holds s ≡ 1 = holds_one s t.by (ap kind_of t.live) t.held in
    let now : holds (changed s worker Back) ≡ 0 = holds_none (changed s worker Back) (ap kind_of t.live) refl in
    let some = (held_some task nodes entries held capacity node t.leaf t.by t.at t.live t.held kept).0 in
    let room = kept.room in
    let e = entry worker node Back in
    let right : IsRight task t.leaf worker Back Live = record { live = t.live; lets = (t.by, t.held); kind = sym (ap kind_of t.live); names = refl; asks = tt; evidence = tt } in
    subst (λ (ns : List Leaf). Did task nodes entries e Live ns (held - 1) after_capacity) (live_status nodes node (record t.leaf { holder = None }) t.live)
    (alone task nodes entries e Live (set nodes node (leaf_with (changed s worker Back) Live)) (held - 1) after_capacity
    (did task nodes entries held capacity e Live t.leaf (held - 1) after_capacity t.at right kept (omega (arith, before, now, some)) (omega (arith, room, some, more))))

-- what is true of a sight is true of its leaf
carry : (P : Task → List (List ℕ) → List (List ℕ × Decision2) → ℕ → Type 0) (task : Task) (nodes : List Leaf) (worker : ℕ) (sight : Sight) (t : Seen task nodes worker sight) → P (arc_value sight.task) sight.tree sight.piece sight.inlined → P task t.leaf.tree t.leaf.piece t.leaf.inlined
carry P task nodes worker sight t h =
    subst (λ (n : ℕ). P task t.leaf.tree t.leaf.piece n) (sym t.seen.inlined_is)
    (subst (λ (p : List (List ℕ × Decision2)). P task t.leaf.tree p sight.inlined) (sym t.seen.piece_is)
    (subst (λ (ps : List (List ℕ)). P task ps sight.piece sight.inlined) (sym t.seen.tree_is)
    (subst (λ (k : Task). P k sight.tree sight.piece sight.inlined) (sym t.seen.task_is) h)))

-- an event after which the leaf is no longer live, and that makes no leaf
done : (task : Task) (nodes : List Leaf) (entries : List Entry) (held capacity after_capacity worker : ℕ) (sight : Sight) (t : Seen task nodes worker sight) (event : Event) (status : Status2) → IsKept task nodes entries held capacity → capacity ≤ after_capacity →
    IsRight task t.leaf worker event status → holds (changed (shape_of t.leaf) worker event) ≡ 0 → sum_by holds (made (shape_of t.leaf) worker event) ≡ 0 → Did task nodes entries (entry worker sight.node event) status (written_at nodes (entry worker sight.node event) status (Some t.leaf)) (held - 1) after_capacity
done task nodes entries held capacity after_capacity worker sight t event status kept more right gone none =
    let s = shape_of t.leaf in
    let before : holds s ≡ 1 = holds_one s worker (ap kind_of t.live) t.held in
    let some = (held_some task nodes entries held capacity sight.node t.leaf worker t.at t.live t.held kept).0 in
    let room = kept.room in
    did task nodes entries held capacity (entry worker sight.node event) status t.leaf (held - 1) after_capacity t.at right kept (omega (arith, before, gone, none, some)) (omega (arith, room, some, more))

pub did_close : (task : Task) (nodes : List Leaf) (entries : List Entry) (held capacity after_capacity worker : ℕ) (sight : Sight) (proof : Refuted) (t : Seen task nodes worker sight) → IsKept task nodes entries held capacity → capacity ≤ after_capacity → Closes (arc_value sight.task) sight.tree sight.piece proof →
    Did task nodes entries (entry worker sight.node Close) (ClosedNode proof) (set nodes sight.node (record t.leaf { status = ClosedNode proof })) (held - 1) after_capacity
did_close task nodes entries held capacity after_capacity worker sight proof t kept more h =
    let may = carry (λ k tree piece n. Closes k tree piece proof) task nodes worker sight t h in
    alone task nodes entries (entry worker sight.node Close) (ClosedNode proof) (set nodes sight.node (record t.leaf { status = ClosedNode proof })) (held - 1) after_capacity
    (done task nodes entries held capacity after_capacity worker sight t Close (ClosedNode proof) kept more (record { live = t.live; lets = t.held; kind = refl; names = refl; asks = (proof, may); evidence = may }) refl refl)

pub did_find : (task : Task) (nodes : List Leaf) (entries : List Entry) (held capacity after_capacity worker : ℕ) (sight : Sight) (run : List RunNode) (t : Seen task nodes worker sight) → IsKept task nodes entries held capacity → capacity ≤ after_capacity → Under (arc_value sight.task) sight.tree sight.piece (run_of run) →
    Did task nodes entries (entry worker sight.node Found) (FoundNode run) (set nodes sight.node (record t.leaf { status = FoundNode run })) (held - 1) after_capacity
did_find task nodes entries held capacity after_capacity worker sight run t kept more h =
    let may = carry (λ k tree piece n. Under k tree piece (run_of run)) task nodes worker sight t h in
    alone task nodes entries (entry worker sight.node Found) (FoundNode run) (set nodes sight.node (record t.leaf { status = FoundNode run })) (held - 1) after_capacity
    (done task nodes entries held capacity after_capacity worker sight t Found (FoundNode run) kept more (record { live = t.live; lets = t.held; kind = refl; names = refl; asks = (run_of run, may); evidence = may }) refl refl)

pub did_inline : (task : Task) (nodes : List Leaf) (entries : List Entry) (held capacity after_capacity worker : ℕ) (sight : Sight) (sites : List (List ℕ)) (run : Run) (t : Seen task nodes worker sight) → IsKept task nodes entries held capacity → length entries + 1 + held ≤ after_capacity → MayInline (arc_value sight.task) sight.tree sight.piece sight.inlined sites run →
    Did task nodes entries (entry worker sight.node (Inline sites)) Live (set nodes sight.node (record t.leaf { tree = sight.tree ++ sites; inlined = sight.inlined + length sites })) held after_capacity
did_inline task nodes entries held capacity after_capacity worker sight sites run t kept room h =
    let may = carry (λ k tree piece n. MayInline k tree piece n sites run) task nodes worker sight t h in
    let e = entry worker sight.node (Inline sites) in
    let s = shape_of t.leaf in
    let before : holds s ≡ 1 = holds_one s worker (ap kind_of t.live) t.held in
    let now : holds (changed s worker (Inline sites)) ≡ 1 = holds_one (changed s worker (Inline sites)) worker (ap kind_of t.live) t.held in
    let lazy : IsLazy task t.leaf.tree t.leaf.piece sites = record { no_under = may.no_under; run = run; over = may.over; passes = may.passes } in
    let right : IsRight task t.leaf worker (Inline sites) Live = record { live = t.live; lets = (t.held, may.undue, may.can); kind = sym (ap kind_of t.live); names = refl; asks = lazy; evidence = tt } in
    subst (λ (ps : List (List ℕ)). Did task nodes entries e Live (set nodes sight.node (record t.leaf { tree = ps ++ sites; inlined = sight.inlined + length sites })) held after_capacity) t.seen.tree_is
    (subst (λ (n : ℕ). Did task nodes entries e Live (set nodes sight.node (record t.leaf { tree = t.leaf.tree ++ sites; inlined = n + length sites })) held after_capacity) t.seen.inlined_is
    (subst (λ (ns : List Leaf). Did task nodes entries e Live ns held after_capacity) (live_status nodes sight.node (record t.leaf { tree = t.leaf.tree ++ sites; inlined = t.leaf.inlined + length sites }) t.live)
    (alone task nodes entries e Live (set nodes sight.node (leaf_with (changed s worker (Inline sites)) Live)) held after_capacity
    (did task nodes entries held capacity e Live t.leaf held after_capacity t.at right kept (omega (arith, before, now)) room))))

abbrev pub half_leaf : Sight → Option ℕ → List ℕ → Decision2 → Leaf
half_leaf sight holder site way = record { piece = sight.piece ++ (site, way) ∷ []; tree = sight.tree; inlined = 0; holder = holder; status = Live }

pub did_split : (task : Task) (nodes : List Leaf) (entries : List Entry) (held capacity after_capacity worker : ℕ) (sight : Sight) (site : List ℕ) (t : Seen task nodes worker sight) → IsKept task nodes entries held capacity → length entries + 1 + held ≤ after_capacity → MaySplit (arc_value sight.task) sight.tree sight.piece sight.inlined site →
    Did task nodes entries (entry worker sight.node (Split site)) (SplitNode site) (set nodes sight.node (record t.leaf { status = SplitNode site }) ++ half_leaf sight (Some worker) site Must ∷ half_leaf sight None site Avoid ∷ []) held after_capacity
did_split task nodes entries held capacity after_capacity worker sight site t kept room h =
    let may = carry (λ k tree piece n. MaySplit k tree piece n site) task nodes worker sight t h in
    let e = entry worker sight.node (Split site) in
    let s = shape_of t.leaf in
    let before : holds s ≡ 1 = holds_one s worker (ap kind_of t.live) t.held in
    let right : IsRight task t.leaf worker (Split site) (SplitNode site) = record { live = t.live; lets = (t.held, may.due, may.free); kind = refl; names = refl; asks = tt; evidence = tt } in
    let old = set nodes sight.node (record t.leaf { status = SplitNode site }) in
    subst (λ (p : List (List ℕ × Decision2)). Did task nodes entries e (SplitNode site) (old ++ record { piece = p ++ (site, Must) ∷ []; tree = sight.tree; inlined = 0; holder = Some worker; status = Live } ∷ record { piece = p ++ (site, Avoid) ∷ []; tree = sight.tree; inlined = 0; holder = None; status = Live } ∷ []) held after_capacity) t.seen.piece_is
    (subst (λ (ps : List (List ℕ)). Did task nodes entries e (SplitNode site) (old ++ record { piece = t.leaf.piece ++ (site, Must) ∷ []; tree = ps; inlined = 0; holder = Some worker; status = Live } ∷ record { piece = t.leaf.piece ++ (site, Avoid) ∷ []; tree = ps; inlined = 0; holder = None; status = Live } ∷ []) held after_capacity) t.seen.tree_is
    (did task nodes entries held capacity e (SplitNode site) t.leaf held after_capacity t.at right kept (omega (arith, before)) room))

-- an event of a leaf that is then no longer held uses the memory that the leaf kept
pub spare_same : (capacity held : ℕ) (entries : List Entry) (e : Entry) → 1 ≤ held → capacity - (length (entries ++ e ∷ []) + (held - 1)) ≡ capacity - (length entries + held)
spare_same capacity held entries e some = let long : length (entries ++ e ∷ []) ≡ length entries + 1 = length-append entries (e ∷ []) in omega arith

pub spare_less : (capacity held : ℕ) (entries : List Entry) (e : Entry) → 2 ≤ capacity - (length entries + held) → (capacity - (length (entries ++ e ∷ []) + (held + 1))) + 2 ≡ capacity - (length entries + held)
spare_less capacity held entries e some = let long : length (entries ++ e ∷ []) ≡ length entries + 1 = length-append entries (e ∷ []) in omega arith

opening_halves : AreHalves opening_leaves (0 ∷ [])
opening_halves = record { long = refl; each = λ node leaf site at split. no_split node leaf site at split }
  where
    no_split : (node : ℕ) (leaf : Leaf) (site : List ℕ) → slice_get opening_leaves node ≡ Some leaf → leaf.status ≡ SplitNode site → (first : ℕ) × (slice_get (0 ∷ []) node ≡ Some first) × HasHalves (shapes_of opening_leaves) node site first
    no_split zero leaf site at split = absurd (none-some site (ap (λ (l : Leaf). site_of l.status) (same_Some _ leaf at) ∙ ap site_of split))
    no_split (suc node) leaf site at split = absurd (none-some leaf at)

pub opening_indexed : IsIndexed opening_leaves [] (0 ∷ []) 0 None
opening_indexed = record { halves = opening_halves; settled_is = refl; found_is = refl }

-- where a live leaf stays live, nothing is to be looked for
pub no_move : (nodes : List Leaf) (entries : List Entry) (firsts : List ℕ) (settled : ℕ) (found : Option ℕ) (i : ℕ) (old new : Leaf) → IsIndexed nodes entries firsts settled found → slice_get nodes i ≡ Some old → old.status ≡ Live → new.status ≡ Live
    → settled ≡ settled + settled_of (drop settled (set nodes i new))
no_move nodes entries firsts settled found i old new are at live still =
    let after : settled_of (set nodes i new ++ []) ≡ settled_of nodes + settled_of (drop (settled_of nodes) (set nodes i new ++ [])) = settled_moves nodes i old new [] at live in
    let here : settled_of (set nodes i new) ≡ settled_of nodes + settled_of (drop (settled_of nodes) (set nodes i new)) =
    subst (λ (ns : List Leaf). settled_of ns ≡ settled_of nodes + settled_of (drop (settled_of nodes) ns)) (append-nil (set nodes i new)) after in
    let same : settled_of (set nodes i new) ≡ settled_of nodes = still_settled nodes i old new at live still in
    subst (λ n. n ≡ n + settled_of (drop n (set nodes i new))) (sym are.settled_is) (sym same ∙ here)
