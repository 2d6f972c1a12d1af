-- What a journal never changes: nodes that are not live, and pieces.
use Rattle.std.proofs.Common.{◌≡◌, ℕ, zero, suc, ◌+◌, Bool, true, false, List, [], ◌∷◌, ◌++◌, length, set, slice_get, refl, sym, ap, ◌∙◌, subst, Some, true≢false, ◌⊎◌, inl, inr, ⊎_elim}
use Rattle.std.specs.Prelude.{Option, None, All}
use Rattle.std.proofs.lemmas.Option.{none-some, same_Some}
use Rattle.std.proofs.lemmas.Bool.{both_ways, cases_Bool}
use Rattle.std.proofs.lemmas.List.Elements.{All-cons, All-nil}
use Rattle.call_tree.specs.declared.piece.Decision2.{Decision2}
use Rattle.call_tree.specs.declared.piece.Decision2.TheVariants.{Must, Avoid}
use Rattle.piece_core.specs.declared.tasks.Task.{Task}
use Rattle.piece_core.specs.declared.events.Event.{Event}
use Rattle.piece_core.specs.declared.events.Event.TheVariants.{Take, Inline, Split, Close, Found, Back}
use Rattle.piece_core.specs.declared.events.Entry.{Entry}
use Rattle.piece_core.specs.declared.leaves.StatusKind.{StatusKind}
use Rattle.piece_core.specs.declared.leaves.StatusKind.TheVariants.{Live as LiveKind, Closed as ClosedKind, Found as FoundKind, Split as SplitKind}
use Rattle.piece_core.specs.Shapes.{Shape, Ask, Legal, replay, opening, after_at, after, changed, half, made, fault_at, is_live, is_found}
use Rattle.piece_core.specs.Book.{first_found, found_or, IsFoundFirst}
use Rattle.piece_core.proofs.Table.{IsHere, here_of}
use Rattle.piece_core.proofs.Well.{all_after}

pub get_set_same : {X : Type 0} (xs : List X) (i : ℕ) (x y : X) → slice_get xs i ≡ Some x → slice_get (set xs i y) i ≡ Some y
get_set_same [] i x y h = absurd (none-some x h)
get_set_same (z ∷ zs) zero x y h = refl
get_set_same (z ∷ zs) (suc i) x y h = get_set_same zs i x y h

pub get_set_other : {X : Type 0} (xs : List X) (i j : ℕ) (y : X) → (i ≡ j → ⊥) → slice_get (set xs i y) j ≡ slice_get xs j
get_set_other [] i j y h = refl
get_set_other (z ∷ zs) zero zero y h = absurd (h refl)
get_set_other (z ∷ zs) zero (suc j) y h = refl
get_set_other (z ∷ zs) (suc i) zero y h = refl
get_set_other (z ∷ zs) (suc i) (suc j) y h = get_set_other zs i j y (λ e. h (ap suc e))

pub get_left : {X : Type 0} (xs ys : List X) (i : ℕ) (x : X) → slice_get xs i ≡ Some x → slice_get (xs ++ ys) i ≡ Some x
get_left [] ys i x h = absurd (none-some x h)
get_left (z ∷ zs) ys zero x h = h
get_left (z ∷ zs) ys (suc i) x h = get_left zs ys i x h

-- the leaf of an event, after it
pub own_after : (nodes : List Shape) (e : Entry) (s : Shape) → slice_get nodes e.node ≡ Some s → slice_get (after nodes e) e.node ≡ Some (changed s e.worker e.event)
own_after nodes e s at =
    subst (λ (o : Option Shape). slice_get (after_at nodes e o) e.node ≡ Some (changed s e.worker e.event)) (sym at)
    (get_left (set nodes e.node (changed s e.worker e.event)) (made s e.worker e.event) e.node (changed s e.worker e.event) (get_set_same nodes e.node s (changed s e.worker e.event) at))

-- another node, after it
pub other_after : (task : Task) (nodes : List Shape) (e : Entry) (i : ℕ) (s : Shape) → fault_at task (slice_get nodes e.node) e ≡ None → (e.node ≡ i → ⊥) → slice_get nodes i ≡ Some s → slice_get (after nodes e) i ≡ Some s
other_after task nodes e i s h apart at =
    let here = here_of task nodes e h in
    subst (λ (o : Option Shape). slice_get (after_at nodes e o) i ≡ Some s) (sym here.at)
    (get_left (set nodes e.node (changed here.shape e.worker e.event)) (made here.shape e.worker e.event) i s (get_set_other nodes e.node i (changed here.shape e.worker e.event) apart ∙ at))

-- a node that is not live stays as it is
pub settled_after : (task : Task) (nodes : List Shape) (e : Entry) (i : ℕ) (s : Shape) → fault_at task (slice_get nodes e.node) e ≡ None → is_live s.status ≡ false → slice_get nodes i ≡ Some s → slice_get (after nodes e) i ≡ Some s
settled_after task nodes e i s h dead at =
    let here = here_of task nodes e h in
    let apart : e.node ≡ i → ⊥ = λ k.
    let same : here.shape ≡ s = same_Some here.shape s (sym here.at ∙ ap (slice_get nodes) k ∙ at) in
    true≢false (sym (ap is_live here.live) ∙ ap (λ (x : Shape). is_live x.status) same ∙ dead) in
    other_after task nodes e i s h apart at

pub settled : (ask : Ask) (task : Task) (nodes : List Shape) (entries : List Entry) (i : ℕ) (s : Shape) → Legal ask task nodes entries → is_live s.status ≡ false → slice_get nodes i ≡ Some s → slice_get (replay nodes entries) i ≡ Some s
settled ask task nodes [] i s legal dead at = at
settled ask task nodes (e ∷ es) i s (fine, asked, legal) dead at = settled ask task (after nodes e) es i s legal dead (settled_after task nodes e i s fine dead at)

-- ---- the first Found

found_case : (event : Event) (node : ℕ) (later : Option ℕ) (n : ℕ) → found_or event node later ≡ Some n → ((event ≡ Found) × (node ≡ n)) ⊎ (later ≡ Some n)
found_case Take node later n h = inr h
found_case (Inline sites) node later n h = inr h
found_case (Split site) node later n h = inr h
found_case Close node later n h = inr h
found_case Found node later n h = inl (refl, same_Some node n h)
found_case Back node later n h = inr h

pub found_is : (ask : Ask) (task : Task) (nodes : List Shape) (entries : List Entry) (n : ℕ) → Legal ask task nodes entries → first_found entries ≡ Some n → (s : Shape) × (slice_get (replay nodes entries) n ≡ Some s) × (s.status ≡ FoundKind)
found_is ask task nodes [] n legal h = absurd (none-some n h)
found_is ask task nodes (e ∷ es) n (fine, asked, legal) h =
    let here = here_of task nodes e fine in
    ⊎_elim
    (λ k. let is : (changed here.shape e.worker e.event).status ≡ FoundKind = ap (λ (v : Event). (changed here.shape e.worker v).status) k.0 in
    (changed here.shape e.worker e.event, settled ask task (after nodes e) es n (changed here.shape e.worker e.event) legal (ap is_live is) (subst (λ (i : ℕ). slice_get (after nodes e) i ≡ Some (changed here.shape e.worker e.event)) k.1 (own_after nodes e here.shape here.at)), is))
    (λ k. found_is ask task (after nodes e) es n legal k)
    (found_case e.event e.node (first_found es) n h)

abbrev pub NotFound : Shape → Type 0
NotFound s = is_found s.status ≡ false

none_case : (event : Event) (node : ℕ) (later : Option ℕ) (s : Shape) (w : ℕ) → found_or event node later ≡ None → NotFound s → NotFound (changed s w event) × All NotFound (made s w event) × (later ≡ None)
none_case Take node later s w h not = (not, All-nil NotFound, h)
none_case (Inline sites) node later s w h not = (not, All-nil NotFound, h)
none_case (Split site) node later s w h not = (refl, All-cons NotFound (half s (Some w) site Must) (half s None site Avoid ∷ []) refl (All-cons NotFound (half s None site Avoid) [] refl (All-nil NotFound)), h)
none_case Close node later s w h not = (refl, All-nil NotFound, h)
none_case Found node later s w h not = absurd (none-some node (sym h))
none_case Back node later s w h not = (not, All-nil NotFound, h)

pub none_found : (ask : Ask) (task : Task) (nodes : List Shape) (entries : List Entry) → Legal ask task nodes entries → first_found entries ≡ None → All NotFound nodes → All NotFound (replay nodes entries)
none_found ask task nodes [] legal h all = all
none_found ask task nodes (e ∷ es) (fine, asked, legal) h all =
    let here = here_of task nodes e fine in
    let r = none_case e.event e.node (first_found es) here.shape e.worker h (ap is_found here.live) in
    none_found ask task (after nodes e) es legal r.2 (all_after NotFound nodes e here.shape here.at r.0 r.1 all)

first_stands_with : (ask : Ask) (task : Task) (piece : List (List ℕ × Decision2)) (tree : List (List ℕ)) (entries : List Entry) (o : Option ℕ) → first_found entries ≡ o → Legal ask task (opening piece tree) entries → IsFoundFirst (replay (opening piece tree) entries) o
first_stands_with ask task piece tree entries None is legal = none_found ask task (opening piece tree) entries legal is (All-cons NotFound _ [] refl (All-nil NotFound))
first_stands_with ask task piece tree entries (Some n) is legal = found_is ask task (opening piece tree) entries n legal is

-- a legal journal's first Found
pub first_stands : (ask : Ask) (task : Task) (piece : List (List ℕ × Decision2)) (tree : List (List ℕ)) (entries : List Entry) → Legal ask task (opening piece tree) entries → IsFoundFirst (replay (opening piece tree) entries) (first_found entries)
first_stands ask task piece tree entries legal = first_stands_with ask task piece tree entries (first_found entries) refl legal
