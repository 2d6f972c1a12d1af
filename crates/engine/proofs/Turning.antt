-- What a turn makes of a book.
use Rattle.std.proofs.Common.{◌≡◌, ◌⊎◌, inl, inr, ⊎_elim, ℕ, Bool, true, false, List, slice_get, refl, sym, ap, ◌∙◌, subst, true≢false, Some}
use Rattle.std.specs.Prelude.{Option, None}
use Rattle.std.specs.Arc.{arc_value}
use Rattle.piece_core.specs.declared.sights.Sight.{Sight}
use Rattle.piece_core.specs.declared.refusals.EventRefusal.{EventRefusal}
use Rattle.piece_core.specs.declared.refusals.EventRefusal.TheVariants.{NoNode, Stale, Held, NotHeld, Moved, NoMemory}
use Rattle.piece_core.specs.declared.leaves.Leaf.{Leaf}
use Rattle.piece_core.specs.declared.leaves.Status2.TheVariants.{Live}
use Rattle.piece_core.specs.Refusals.{OrNoMemory, EventRefused}
use Rattle.piece_core.specs.Book.{Ledger, Same}
use Rattle.engine.specs.declared.thoughts.Thought.{Thought}
use Rattle.engine.specs.declared.turns.Turned.{Turned}
use Rattle.engine.specs.declared.turns.Turned.TheVariants.{Booked as BookedTurn, Refused as RefusedTurn, NoMemory as NoMemoryTurn}
use Rattle.piece_core.specs.declared.tasks.Task.{Task}
use Rattle.piece_core.specs.Shapes.{is_live, changed}
use Rattle.piece_core.specs.Refusals.{RefusedAs, sight_at, sight_refusal, IsAsSeen, event_is, holder_is, moved_is, by_test}
use Rattle.piece_core.specs.Evidence.{kind_of, shape_of}
use Rattle.piece_core.specs.Book.{written, written_at, entry, leaf_with, Booked}
use Rattle.piece_core.specs.declared.events.Event.TheVariants.{Take as TakeEvent}
use Rattle.piece_core.specs.declared.events.Entry.{Entry}
use Rattle.piece_core.specs.declared.leaves.Status2.{Status2}
use Rattle.piece_core.proofs.Seen.{seen_of}
use Rattle.piece_core.proofs.Kept.{get_left, get_set_same}
use Rattle.std.proofs.lemmas.Option.{none-some, same_Some}
use Rattle.std.proofs.Common.{length, cond, set, eq-eqb}
use Rattle.engine.specs.Engine.{Settled, turned_of, Turns, Thinks, IsHeldBy, IsLive, event_of, status_of}

abbrev is_memory : EventRefusal → Bool
is_memory (NoNode nodes) = false
is_memory (Stale status) = false
is_memory (Held by) = false
is_memory NotHeld = false
is_memory Moved = false
is_memory NoMemory = true

other : {X : Type 0} (e : EventRefusal) → is_memory e ≡ false → e ≡ NoMemory → X
other e nay h = absurd (true≢false (sym (ap is_memory h) ∙ nay))

-- a refused event
pub settled_err : (old new : Ledger) (worker : ℕ) (sight : Sight) (thought : Thought) (e : EventRefusal) → EventRefused old.task old.nodes worker sight (Some e) → Same old new → Settled old new worker sight thought (turned_of e)
settled_err old new worker sight thought (NoNode nodes) h same = (h, same)
settled_err old new worker sight thought (Stale status) h same = (h, same)
settled_err old new worker sight thought (Held by) h same = (h, same)
settled_err old new worker sight thought NotHeld h same = (h, same)
settled_err old new worker sight thought Moved h same = (h, same)
settled_err old new worker sight thought NoMemory h same = same

-- a refused event, or want of memory
pub settled_or : (old new : Ledger) (worker : ℕ) (sight : Sight) (thought : Thought) (e : EventRefusal) → OrNoMemory (EventRefused old.task old.nodes worker sight) e → Same old new → Settled old new worker sight thought (turned_of e)
settled_or old new worker sight thought e (inl h) same = settled_err old new worker sight thought e h same
settled_or old new worker sight thought e (inr (is, h)) same = subst (λ (r : EventRefusal). Settled old new worker sight thought (turned_of r)) (sym is) same

pub itself : (old new : Ledger) → new ≡ old → Same old new
itself old new h = record { task = ap (λ (l : Ledger). l.task) h; nodes = ap (λ (l : Ledger). l.nodes) h; entries = ap (λ (l : Ledger). l.entries) h }

-- ---- no refusal of a leaf that is held

pub live_test : (status : Status2) → status ≡ Live → is_live (kind_of status) ≡ true
live_test status h = ap (λ (t : Status2). is_live (kind_of t)) h

turned_err : (old new : Ledger) (worker node : ℕ) (e : EventRefusal) → Same old new → (e ≡ NoMemory) ⊎ (IsHeldBy old node worker → ⊥) → Turns old new worker node (turned_of e)
turned_err old new worker node (NoNode nodes) same h = (same, λ held. ⊎_elim (λ k. other (NoNode nodes) refl k) (λ f. f held) h)
turned_err old new worker node (Stale status) same h = (same, λ held. ⊎_elim (λ k. other (Stale status) refl k) (λ f. f held) h)
turned_err old new worker node (Held by) same h = (same, λ held. ⊎_elim (λ k. other (Held by) refl k) (λ f. f held) h)
turned_err old new worker node NotHeld same h = (same, λ held. ⊎_elim (λ k. other NotHeld refl k) (λ f. f held) h)
turned_err old new worker node Moved same h = (same, λ held. ⊎_elim (λ k. other Moved refl k) (λ f. f held) h)
turned_err old new worker node NoMemory same h = same

sight_case : (old : Ledger) (worker node : ℕ) (e : EventRefusal) (o : Option EventRefusal) → sight_refusal old.nodes node ≡ o → RefusedAs o e → (e ≡ NoMemory) ⊎ (IsHeldBy old node worker → ⊥)
sight_case old worker node e None is h = inl h
sight_case old worker node e (Some r) is h = inr (λ held. none-some r
    (sym (ap (λ (b : Bool). cond b None (Some (Stale (kind_of held.leaf.status)))) (live_test held.leaf.status held.live)) ∙ sym (ap (sight_at (length old.nodes)) held.at) ∙ is))

pub sight_refused : (old new : Ledger) (worker node : ℕ) (e : EventRefusal) → new ≡ old → RefusedAs (sight_refusal old.nodes node) e → Turns old new worker node (turned_of e)
sight_refused old new worker node e same h = turned_err old new worker node e (itself old new same) (sight_case old worker node e (sight_refusal old.nodes node) refl h)

-- an event on what is as it was seen, by the worker that holds it
not_refused : (task : Task) (leaf : Leaf) (count worker : ℕ) (sight : Sight) (e : EventRefusal) → leaf.status ≡ Live → leaf.holder ≡ Some worker → IsAsSeen task leaf sight → event_is task count worker sight (Some leaf) (Some e) → ⊥
not_refused task leaf count worker sight e live held seen h =
    let a : holder_is task leaf worker sight leaf.holder (Some e) = subst (λ (b : Bool). by_test b (holder_is task leaf worker sight leaf.holder (Some e)) (Some e ≡ Some (Stale (kind_of leaf.status)))) (live_test leaf.status live) h in
    let b : holder_is task leaf worker sight (Some worker) (Some e) = subst (λ (o : Option ℕ). holder_is task leaf worker sight o (Some e)) held a in
    let m : moved_is task leaf sight (Some e) = subst (λ (t : Bool). by_test t (moved_is task leaf sight (Some e)) (Some e ≡ Some NotHeld)) (eq-eqb worker worker refl) b in
    m.1 seen

pub settled_turn : (old new : Ledger) (worker node : ℕ) (sight : Sight) (thought : Thought) (turned : Turned) (leaf : Leaf) → slice_get old.nodes node ≡ Some leaf → leaf.status ≡ Live → sight.node ≡ node → IsAsSeen old.task leaf sight
    → Thinks old.task leaf.tree leaf.piece leaf.inlined thought → Settled old new worker sight thought turned → Turns old new worker node turned
settled_turn old new worker node sight thought (BookedTurn kind ticket) leaf at live place seen thinks (refused, booked, falls, kind_is, ticket_is) =
    let t = seen_of old.task old.nodes worker sight refused in
    let same : t.leaf ≡ leaf = same_Some t.leaf leaf (sym t.at ∙ ap (slice_get old.nodes) place ∙ at) in
    record {
      leaf = leaf;
      at = at;
      live = live;
      held = sym (ap (λ (l : Leaf). l.holder) same) ∙ t.held;
      thought = thought;
      thinks = thinks;
      booked = subst (λ n. Booked old new (entry worker n (event_of thought)) (status_of thought)) place booked;
      falls = falls;
      kind_is = kind_is;
      ticket_is = ticket_is;
    }
settled_turn old new worker node sight thought (RefusedTurn e) leaf at live place seen thinks (refused, same) = (
  same,
  λ held.
      let is : held.leaf ≡ leaf = same_Some held.leaf leaf (sym held.at ∙ at) in
      not_refused old.task leaf (length old.nodes) worker sight e live (sym (ap (λ (l : Leaf). l.holder) is) ∙ held.held) seen
      (subst (λ (o : Option Leaf). event_is old.task (length old.nodes) worker sight o (Some e)) (ap (slice_get old.nodes) place ∙ at) refused),
)
settled_turn old new worker node sight thought NoMemoryTurn leaf at live place seen thinks same = same

pub thinks_of : (task : Task) (leaf : Leaf) (sight : Sight) (thought : Thought) → IsAsSeen task leaf sight → Thinks (arc_value sight.task) sight.tree sight.piece sight.inlined thought → Thinks task leaf.tree leaf.piece leaf.inlined thought
thinks_of task leaf sight thought seen h =
    subst (λ (n : ℕ). Thinks task leaf.tree leaf.piece n thought) (sym seen.inlined_is)
    (subst (λ p. Thinks task leaf.tree p sight.inlined thought) (sym seen.piece_is)
    (subst (λ t. Thinks task t sight.piece sight.inlined thought) (sym seen.tree_is)
    (subst (λ (k : Task). Thinks k sight.tree sight.piece sight.inlined thought) (sym seen.task_is) h)))

-- ---- a live leaf can be held

pub own_written : (nodes : List Leaf) (e : Entry) (status : Status2) (leaf : Leaf) → slice_get nodes e.node ≡ Some leaf → slice_get (written nodes e status) e.node ≡ Some (leaf_with (changed (shape_of leaf) e.worker e.event) status)
own_written nodes e status leaf at =
    subst (λ (o : Option Leaf). slice_get (written_at nodes e status o) e.node ≡ Some (leaf_with (changed (shape_of leaf) e.worker e.event) status)) (sym at)
    (get_left (set nodes e.node (leaf_with (changed (shape_of leaf) e.worker e.event) status)) _ e.node _ (get_set_same nodes e.node leaf (leaf_with (changed (shape_of leaf) e.worker e.event) status) at))

pub held_by : (old new : Ledger) (worker node : ℕ) → IsLive old node → Booked old new (entry worker node TakeEvent) Live → IsHeldBy new node worker
held_by old new worker node h booked = record {
  leaf = leaf_with (changed (shape_of h.leaf) worker TakeEvent) Live;
  at = ap (λ (ns : List Leaf). slice_get ns node) booked.nodes ∙ own_written old.nodes (entry worker node TakeEvent) Live h.leaf h.at;
  live = refl;
  held = refl;
}
