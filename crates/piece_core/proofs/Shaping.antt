-- Nodes with their evidence, and the shapes of them.
use Rattle.std.proofs.Common.{◌≡◌, ℕ, zero, suc, List, [], ◌∷◌, ◌++◌, set, slice_get, refl, sym, ap, ap₂, ◌∙◌, subst, Some}
use Rattle.std.specs.Prelude.{Option, None, All, map}
use Rattle.std.proofs.lemmas.Option.{none-some, same_Some}
use Rattle.std.proofs.lemmas.List.{map-set}
use Rattle.std.proofs.lemmas.List.Elements.{All-set, All-append, All-cons, All-nil, All-head, All-tail}
use Rattle.piece_core.specs.declared.tasks.Task.{Task}
use Rattle.piece_core.specs.declared.events.Event.{Event}
use Rattle.piece_core.specs.declared.events.Event.TheVariants.{Take, Inline, Split, Close, Found, Back}
use Rattle.piece_core.specs.declared.events.Entry.{Entry}
use Rattle.piece_core.specs.declared.leaves.Status2.{Status2}
use Rattle.piece_core.specs.declared.leaves.Status2.TheVariants.{Live}
use Rattle.piece_core.specs.declared.leaves.Leaf.{Leaf}
use Rattle.piece_core.specs.declared.leaves.StatusKind.{StatusKind}
use Rattle.piece_core.specs.declared.leaves.StatusKind.TheVariants.{Live as LiveKind}
use Rattle.piece_core.specs.Shapes.{Shape, changed, made, after_at, after, IsWell}
use Rattle.piece_core.specs.Evidence.{kind_of, shape_of, shapes_of, Evidence, IsFine}
use Rattle.piece_core.specs.Book.{leaf_with, live_leaf, written_at, written}
use Rattle.piece_core.proofs.Table.{Lets}
use Rattle.piece_core.proofs.Well.{all_at, well_changed, well_made}

pub map_get : {X Y : Type 0} (f : X → Y) (xs : List X) (i : ℕ) (x : X) → slice_get xs i ≡ Some x → slice_get (map f xs) i ≡ Some (f x)
map_get f [] i x h = absurd (none-some x h)
map_get f (y ∷ ys) zero x h = ap (λ z. Some (f z)) (same_Some y x h)
map_get f (y ∷ ys) (suc i) x h = map_get f ys i x h

pub map_got : {X Y : Type 0} (f : X → Y) (xs : List X) (i : ℕ) (y : Y) → slice_get (map f xs) i ≡ Some y → (x : X) × (slice_get xs i ≡ Some x) × (f x ≡ y)
map_got f [] i y h = absurd (none-some y h)
map_got f (x ∷ xs) zero y h = (x, refl, same_Some (f x) y h)
map_got f (x ∷ xs) (suc i) y h = map_got f xs i y h

pub map_more : {X Y : Type 0} (f : X → Y) (xs ys : List X) → map f (xs ++ ys) ≡ map f xs ++ map f ys
map_more f [] ys = refl
map_more f (x ∷ xs) ys = ap (λ zs. f x ∷ zs) (map_more f xs ys)

-- what is made is live
made_live : (s : Shape) (w : ℕ) (event : Event) → shapes_of (map live_leaf (made s w event)) ≡ made s w event
made_live s w Take = refl
made_live s w (Inline sites) = refl
made_live s w (Split site) = refl
made_live s w Close = refl
made_live s w Found = refl
made_live s w Back = refl

shape_with : (s : Shape) (status : Status2) → kind_of status ≡ s.status → shape_of (leaf_with s status) ≡ s
shape_with s status h = ap (λ (k : StatusKind). record s { status = k }) h

-- the two tables are one
pub shapes_written : (nodes : List Leaf) (e : Entry) (status : Status2) (leaf : Leaf) → slice_get nodes e.node ≡ Some leaf → kind_of status ≡ (changed (shape_of leaf) e.worker e.event).status → shapes_of (written_at nodes e status (Some leaf)) ≡ after (shapes_of nodes) e
shapes_written nodes e status leaf at kind =
    let s = changed (shape_of leaf) e.worker e.event in
    let more = made (shape_of leaf) e.worker e.event in
    let old = set nodes e.node (leaf_with s status) in
    let one : shapes_of (old ++ map live_leaf more) ≡ shapes_of old ++ shapes_of (map live_leaf more) = map_more shape_of old (map live_leaf more) in
    let two : shapes_of old ≡ set (shapes_of nodes) e.node s = map-set shape_of nodes e.node (leaf_with s status) ∙ ap (set (shapes_of nodes) e.node) (shape_with s status kind) in
    one ∙ ap₂ (λ (xs ys : List Shape). xs ++ ys) two (made_live (shape_of leaf) e.worker e.event) ∙ sym (ap (after_at (shapes_of nodes) e) (map_get shape_of nodes e.node leaf at))

fine_live : (task : Task) (shapes : List Shape) → All (IsWell task) shapes → All (IsFine task) (map live_leaf shapes)
fine_live task [] all = All-nil (IsFine task)
fine_live task (s ∷ ss) all =
    let w = All-head (IsWell task) s ss all in
    All-cons (IsFine task) (live_leaf s) (map live_leaf ss) (record { well = record { tree = w.tree; named = w.named; once = w.once }; evidence = tt }) (fine_live task ss (All-tail (IsWell task) s ss all))

-- the evidence stays true
pub fine_written : (task : Task) (nodes : List Leaf) (e : Entry) (status : Status2) (leaf : Leaf) → slice_get nodes e.node ≡ Some leaf → Lets task (shape_of leaf) e.worker e.event
    → Evidence task (changed (shape_of leaf) e.worker e.event).tree (changed (shape_of leaf) e.worker e.event).piece status → All (IsFine task) nodes → All (IsFine task) (written_at nodes e status (Some leaf))
fine_written task nodes e status leaf at lets evidence fine =
    let s = changed (shape_of leaf) e.worker e.event in
    let more = made (shape_of leaf) e.worker e.event in
    let own = (all_at (IsFine task) nodes e.node leaf at fine).well in
    let w = well_changed task (shape_of leaf) e.worker e.event lets own in
    All-append (IsFine task) (set nodes e.node (leaf_with s status)) (map live_leaf more)
    (All-set (IsFine task) nodes e.node (leaf_with s status) (record { well = record { tree = w.tree; named = w.named; once = w.once }; evidence = evidence }) fine)
    (fine_live task more (well_made task (shape_of leaf) e.worker e.event lets own))
