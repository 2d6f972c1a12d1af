-- What follows where an event is not refused.
use Rattle.std.proofs.Common.{◌≡◌, ℕ, Bool, true, false, cond, List, [], ◌∷◌, length, slice_get, refl, sym, ap, ◌∙◌, subst, true≢false, Some, eqb-true, nat_eq}
use Rattle.std.specs.Prelude.{Option, None}
use Rattle.std.proofs.lemmas.Option.{none-some, slice_get_within}
use Rattle.piece_core.specs.declared.tasks.Task.{Task}
use Rattle.piece_core.specs.declared.sights.Sight.{Sight}
use Rattle.piece_core.specs.declared.refusals.EventRefusal.{EventRefusal}
use Rattle.piece_core.specs.declared.leaves.Status2.{Status2}
use Rattle.piece_core.specs.declared.leaves.Status2.TheVariants.{Live, Closed, Found, Split}
use Rattle.piece_core.specs.declared.leaves.Leaf.{Leaf}
use Rattle.piece_core.specs.Shapes.{is_live}
use Rattle.piece_core.specs.Evidence.{kind_of}
use Rattle.piece_core.specs.Refusals.{take_at, take_holder, take_refusal, back_at, back_holder, back_refusal, IsAsSeen, by_test, moved_is, holder_is, event_is, EventRefused}

status_is : (t : Status2) → is_live (kind_of t) ≡ true → t ≡ Live
status_is Live h = refl
status_is (Closed proof) h = absurd (true≢false (sym h))
status_is (Found run) h = absurd (true≢false (sym h))
status_is (Split site) h = absurd (true≢false (sym h))

-- a leaf that may be taken
pub record Free (nodes : List Leaf) (node : ℕ) : Type 0 where
  pub leaf : Leaf
  pub at : slice_get nodes node ≡ Some leaf
  pub live : leaf.status ≡ Live
  pub free : leaf.holder ≡ None

free_holder : (o : Option ℕ) → take_holder o ≡ None → o ≡ None
free_holder None h = refl
free_holder (Some by) h = absurd (none-some _ (sym h))

free_live : (b : Bool) (o : Option ℕ) (r : EventRefusal) → cond b (take_holder o) (Some r) ≡ None → (b ≡ true) × (o ≡ None)
free_live true o r h = (refl, free_holder o h)
free_live false o r h = absurd (none-some _ (sym h))

free_at : (nodes : List Leaf) (node : ℕ) (o : Option Leaf) → slice_get nodes node ≡ o → take_at (length nodes) o ≡ None → Free nodes node
free_at nodes node None at h = absurd (none-some _ (sym h))
free_at nodes node (Some leaf) at h =
    let r = free_live (is_live (kind_of leaf.status)) leaf.holder _ h in
    record { leaf = leaf; at = at; live = status_is leaf.status r.0; free = r.1 }

pub free_of : (nodes : List Leaf) (node : ℕ) → take_refusal nodes node ≡ None → Free nodes node
free_of nodes node h = free_at nodes node (slice_get nodes node) refl h

-- a leaf that may be given back
pub record Taken (nodes : List Leaf) (node : ℕ) : Type 0 where
  pub leaf : Leaf
  pub by : ℕ
  pub at : slice_get nodes node ≡ Some leaf
  pub live : leaf.status ≡ Live
  pub held : leaf.holder ≡ Some by

held_holder : (o : Option ℕ) → back_holder o ≡ None → (by : ℕ) × (o ≡ Some by)
held_holder None h = absurd (none-some _ (sym h))
held_holder (Some by) h = (by, refl)

held_live : (b : Bool) (o : Option ℕ) (r : EventRefusal) → cond b (back_holder o) (Some r) ≡ None → (b ≡ true) × ((by : ℕ) × (o ≡ Some by))
held_live true o r h = (refl, held_holder o h)
held_live false o r h = absurd (none-some _ (sym h))

taken_at : (nodes : List Leaf) (node : ℕ) (o : Option Leaf) → slice_get nodes node ≡ o → back_at (length nodes) o ≡ None → Taken nodes node
taken_at nodes node None at h = absurd (none-some _ (sym h))
taken_at nodes node (Some leaf) at h =
    let r = held_live (is_live (kind_of leaf.status)) leaf.holder _ h in
    record { leaf = leaf; by = r.1.0; at = at; live = status_is leaf.status r.0; held = r.1.1 }

pub taken_of : (nodes : List Leaf) (node : ℕ) → back_refusal nodes node ≡ None → Taken nodes node
taken_of nodes node h = taken_at nodes node (slice_get nodes node) refl h

-- a leaf that is live and as it was seen, and that the worker holds
pub record Seen (task : Task) (nodes : List Leaf) (worker : ℕ) (sight : Sight) : Type 0 where
  pub leaf : Leaf
  pub at : slice_get nodes sight.node ≡ Some leaf
  pub live : leaf.status ≡ Live
  pub held : leaf.holder ≡ Some worker
  pub seen : IsAsSeen task leaf sight

seen_same : (b : Bool) (one : Type 0) (r : EventRefusal) → by_test b one (None ≡ Some r) → (b ≡ true) × one
seen_same true one r h = (refl, h)
seen_same false one r h = absurd (none-some _ h)

seen_holder : (task : Task) (leaf : Leaf) (worker : ℕ) (sight : Sight) (o : Option ℕ) → holder_is task leaf worker sight o None → (o ≡ Some worker) × IsAsSeen task leaf sight
seen_holder task leaf worker sight None h = absurd (none-some _ h)
seen_holder task leaf worker sight (Some by) h = let r = seen_same (nat_eq by worker) (IsAsSeen task leaf sight) _ h in (ap Some (eqb-true by worker r.0), r.1)

seen_at : (task : Task) (nodes : List Leaf) (worker : ℕ) (sight : Sight) (o : Option Leaf) → slice_get nodes sight.node ≡ o → event_is task (length nodes) worker sight o None → Seen task nodes worker sight
seen_at task nodes worker sight None at h = absurd (none-some _ h)
seen_at task nodes worker sight (Some leaf) at h =
    let r = seen_same (is_live (kind_of leaf.status)) (holder_is task leaf worker sight leaf.holder None) _ h in
    let q = seen_holder task leaf worker sight leaf.holder r.1 in
    record { leaf = leaf; at = at; live = status_is leaf.status r.0; held = q.0; seen = q.1 }

pub seen_of : (task : Task) (nodes : List Leaf) (worker : ℕ) (sight : Sight) → EventRefused task nodes worker sight None → Seen task nodes worker sight
seen_of task nodes worker sight h = seen_at task nodes worker sight (slice_get nodes sight.node) refl h

-- what a call of the test says, where the book's own task and nodes were passed to it
pub no_refusal : (task seen_task : Task) (nodes seen_nodes : List Leaf) (worker : ℕ) (sight : Sight) (r : Option EventRefusal) → EventRefused seen_task seen_nodes worker sight r → seen_task ≡ task → seen_nodes ≡ nodes → r ≡ None → EventRefused task nodes worker sight None
no_refusal task seen_task nodes seen_nodes worker sight r h same_task same_nodes none =
    subst (λ (k : Task). EventRefused k nodes worker sight None) same_task (subst (λ (ns : List Leaf). EventRefused seen_task ns worker sight None) same_nodes (subst (λ (o : Option EventRefusal). EventRefused seen_task seen_nodes worker sight o) none h))
