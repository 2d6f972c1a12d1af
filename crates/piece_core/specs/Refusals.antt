-- Why an event is refused, in the order in which the causes are tried; None where it is not, but for want of memory.
use Rattle.std.specs.Prelude.{◌≡◌, ◌⊎◌, ℕ, nat_eq, Bool, true, false, List, length, slice_get, Option, None, Some, if◌then◌else◌}
use Rattle.std.specs.Arc.{arc_value}
use Rattle.piece_core.specs.declared.tasks.Task.{Task}
use Rattle.piece_core.specs.declared.sights.Sight.{Sight}
use Rattle.piece_core.specs.declared.leaves.Leaf.{Leaf}
use Rattle.piece_core.specs.declared.refusals.EventRefusal.{EventRefusal}
use Rattle.piece_core.specs.declared.refusals.EventRefusal.TheVariants.{NoNode, Stale, Held, NotHeld, Moved, NoMemory}
use Rattle.piece_core.specs.Shapes.{is_live}
use Rattle.piece_core.specs.Evidence.{kind_of}

abbrev pub take_holder : Option ℕ → Option EventRefusal
take_holder None = None
take_holder (Some by) = Some (Held by)

abbrev pub take_at : ℕ → Option Leaf → Option EventRefusal
take_at count None = Some (NoNode count)
take_at count (Some leaf) = if is_live (kind_of leaf.status) then take_holder leaf.holder else Some (Stale (kind_of leaf.status))

abbrev pub take_refusal : List Leaf → (node : ℕ) → Option EventRefusal
take_refusal nodes node = take_at (length nodes) (slice_get nodes node)

abbrev pub back_holder : Option ℕ → Option EventRefusal
back_holder None = Some NotHeld
back_holder (Some by) = None

abbrev pub back_at : ℕ → Option Leaf → Option EventRefusal
back_at count None = Some (NoNode count)
back_at count (Some leaf) = if is_live (kind_of leaf.status) then back_holder leaf.holder else Some (Stale (kind_of leaf.status))

abbrev pub back_refusal : List Leaf → (node : ℕ) → Option EventRefusal
back_refusal nodes node = back_at (length nodes) (slice_get nodes node)

abbrev pub sight_at : ℕ → Option Leaf → Option EventRefusal
sight_at count None = Some (NoNode count)
sight_at count (Some leaf) = if is_live (kind_of leaf.status) then None else Some (Stale (kind_of leaf.status))

abbrev pub sight_refusal : List Leaf → (node : ℕ) → Option EventRefusal
sight_refusal nodes node = sight_at (length nodes) (slice_get nodes node)

-- ---- events on what was seen of a leaf

-- the leaf is as it was seen, in a book of the same task
pub record IsAsSeen (task : Task) (leaf : Leaf) (sight : Sight) : Type 0 where
  pub task_is : task ≡ arc_value sight.task
  pub piece_is : leaf.piece ≡ sight.piece
  pub tree_is : leaf.tree ≡ sight.tree
  pub inlined_is : leaf.inlined ≡ sight.inlined

abbrev pub moved_is : Task → Leaf → Sight → Option EventRefusal → Type 0
moved_is task leaf sight None = IsAsSeen task leaf sight
moved_is task leaf sight (Some e) = (e ≡ Moved) × (IsAsSeen task leaf sight → ⊥)

abbrev pub by_test : Bool → (one other : Type 0) → Type 0
by_test true one other = one
by_test false one other = other

abbrev pub holder_is : Task → Leaf → ℕ → Sight → Option ℕ → Option EventRefusal → Type 0
holder_is task leaf worker sight None r = r ≡ Some NotHeld
holder_is task leaf worker sight (Some by) r = by_test (nat_eq by worker) (moved_is task leaf sight r) (r ≡ Some NotHeld)

abbrev pub event_is : Task → ℕ → ℕ → Sight → Option Leaf → Option EventRefusal → Type 0
event_is task count worker sight None r = r ≡ Some (NoNode count)
event_is task count worker sight (Some leaf) r =
    by_test (is_live (kind_of leaf.status)) (holder_is task leaf worker sight leaf.holder r) (r ≡ Some (Stale (kind_of leaf.status)))

-- what is answered to an event of this worker on what it saw
abbrev pub EventRefused : Task → List Leaf → (worker : ℕ) → Sight → Option EventRefusal → Type 0
EventRefused task nodes worker sight r = event_is task (length nodes) worker sight (slice_get nodes sight.node) r

-- ---- want of memory, which comes last

-- the cause, or want of memory where there is none
abbrev pub OrNoMemory : (Option EventRefusal → Type 0) → EventRefusal → Type 0
OrNoMemory refused e = refused (Some e) ⊎ ((e ≡ NoMemory) × refused None)

abbrev pub RefusedAs : Option EventRefusal → EventRefusal → Type 0
RefusedAs None e = e ≡ NoMemory
RefusedAs (Some refusal) e = e ≡ refusal
