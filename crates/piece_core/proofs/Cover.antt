-- Each event keeps that whatever meets the piece with which the table opens meets exactly one leaf's piece.
use Rattle.std.proofs.Common.{◌≡◌, ℕ, suc, ◌+◌, Bool, true, false, not, ◌&&◌, cond, List, [], ◌∷◌, ◌++◌, set, slice_get, refl, sym, ap, ◌∙◌, subst, arith, Some, add-zero}
use Rattle.std.specs.Prelude.{count_by, sum_by, Option, None}
use Rattle.std.proofs.lemmas.List.Sums.{sum_by-set, sum_by-append}
use Rattle.std.proofs.lemmas.Option.{slice_get_within, get_or_from_slice_get}
use Rattle.call_tree.specs.declared.piece.Decision2.{Decision2}
use Rattle.call_tree.specs.declared.piece.Decision2.TheVariants.{Must, Avoid}
use Rattle.call_tree.specs.Pieces.{meets}
use Rattle.call_tree.proofs.Covering.{meets_more}
use Rattle.piece_core.specs.declared.tasks.Task.{Task}
use Rattle.piece_core.specs.declared.events.Event.{Event}
use Rattle.piece_core.specs.declared.events.Event.TheVariants.{Take, Inline, Split, Close, Found, Back}
use Rattle.piece_core.specs.declared.events.Entry.{Entry}
use Rattle.piece_core.specs.declared.leaves.StatusKind.{StatusKind}
use Rattle.piece_core.specs.declared.leaves.StatusKind.TheVariants.{Live as LiveKind, Closed as ClosedKind, Found as FoundKind, Split as SplitKind}
use Rattle.piece_core.specs.Shapes.{Shape, changed, half, made, after_at, after, is_leaf, is_met, Covers, fault_at}
use Rattle.piece_core.proofs.Table.{IsHere, here_of}

-- a sum over a list after a write
pub sum_set : {X : Type 0} (f : X → ℕ) (xs : List X) (i : ℕ) (x y : X) → slice_get xs i ≡ Some x → sum_by f (set xs i y) + f x ≡ sum_by f xs + f y
sum_set f xs i x y at = subst (λ z. sum_by f (set xs i y) + f z ≡ sum_by f xs + f y) (get_or_from_slice_get xs i x x at) (sum_by-set f xs i y x (slice_get_within xs i x at))

-- a sum over the nodes after an event
pub sum_after : (f : Shape → ℕ) (nodes : List Shape) (e : Entry) (s : Shape) → slice_get nodes e.node ≡ Some s →
    sum_by f (after nodes e) + f s ≡ sum_by f nodes + (f (changed s e.worker e.event) + sum_by f (made s e.worker e.event))
sum_after f nodes e s at =
    let new = changed s e.worker e.event in
    let more = made s e.worker e.event in
    let written : sum_by f (set nodes e.node new) + f s ≡ sum_by f nodes + f new = sum_set f nodes e.node s new at in
    let whole : sum_by f (set nodes e.node new ++ more) ≡ sum_by f (set nodes e.node new) + sum_by f more = sum_by-append f (set nodes e.node new) more in
    let there : sum_by f (set nodes e.node new ++ more) + f s ≡ sum_by f nodes + (f new + sum_by f more) = omega arith in
    subst (λ (o : Option Shape). sum_by f (after_at nodes e o) + f s ≡ sum_by f nodes + (f new + sum_by f more)) (sym at) there

-- how often a leaf is met: once or not
abbrev pub times : (List ℕ → Bool) → Shape → ℕ
times reached s = cond (is_met reached s) 1 0

live_met : (reached : List ℕ → Bool) (s : Shape) → s.status ≡ LiveKind → is_met reached s ≡ meets reached s.piece
live_met reached s live = ap (λ (t : StatusKind). is_leaf t && meets reached s.piece) live

one_way : (m r : Bool) → 0 + (0 + cond (m && r) 1 0 + cond (m && not r) 1 0) ≡ cond m 1 0
one_way true true = refl
one_way true false = refl
one_way false true = refl
one_way false false = refl

-- a live leaf is met as often as it is after the event, together with those that the event makes
pub met_same : (reached : List ℕ → Bool) (s : Shape) (w : ℕ) (event : Event) → s.status ≡ LiveKind → times reached (changed s w event) + sum_by (times reached) (made s w event) ≡ times reached s
met_same reached s w Take live = add-zero (times reached s)
met_same reached s w (Inline sites) live = add-zero (times reached s)
met_same reached s w (Split site) live =
    rw (live_met reached s live, meets_more reached s.piece (site, Must), meets_more reached s.piece (site, Avoid)) (one_way (meets reached s.piece) (reached site))
met_same reached s w Close live = add-zero _ ∙ ap (λ (b : Bool). cond b 1 0) (sym (live_met reached s live))
met_same reached s w Found live = add-zero _ ∙ ap (λ (b : Bool). cond b 1 0) (sym (live_met reached s live))
met_same reached s w Back live = add-zero (times reached s)

pub covers_after : (task : Task) (piece : List (List ℕ × Decision2)) (nodes : List Shape) (e : Entry) → fault_at task (slice_get nodes e.node) e ≡ None → Covers piece nodes → Covers piece (after nodes e)
covers_after task piece nodes e h covers = λ reached.
    let here = here_of task nodes e h in
    let sums = sum_after (times reached) nodes e here.shape here.at in
    let same = met_same reached here.shape e.worker e.event here.live in
    let before : sum_by (times reached) nodes ≡ cond (meets reached piece) 1 0 = covers reached in
    let now : sum_by (times reached) (after nodes e) ≡ cond (meets reached piece) 1 0 = omega arith in now
