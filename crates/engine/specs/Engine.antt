-- What one worker thinks and does.
use Rattle.std.specs.Prelude.{◌≡◌, ◌⊎◌, ◌<◌, ◌+◌, ◌-◌, ℕ, false, List, length, slice_get, IsTrue, Option, None, Some}
use Rattle.std.specs.Arc.{arc_value}
use Rattle.flat_prog.specs.Trees.{Run}
use Rattle.flat_prog.specs.Nodes.{run_of}
use Rattle.call_tree.specs.declared.piece.Decision2.{Decision2}
use Rattle.call_tree.specs.Trees.{IsPartTree, are_in, all_differ}
use Rattle.call_tree.specs.Pieces.{names_of, undecided_of}
use Rattle.call_tree.specs.Laws.{passed_of}
use Rattle.piece_core.specs.declared.tasks.Task.{Task}
use Rattle.piece_core.specs.declared.events.Event.{Event}
use Rattle.piece_core.specs.declared.events.Event.TheVariants.{Inline as InlineEvent, Split as SplitEvent, Close as CloseEvent, Found as FoundEvent}
use Rattle.piece_core.specs.declared.leaves.Status2.{Status2}
use Rattle.piece_core.specs.declared.leaves.Status2.TheVariants.{Live, Closed, Found, Split}
use Rattle.piece_core.specs.declared.sights.Sight.{Sight}
use Rattle.piece_core.specs.declared.refusals.EventRefusal.{EventRefusal}
use Rattle.piece_core.specs.declared.refusals.EventRefusal.TheVariants.{NoNode, Stale, Held, NotHeld, Moved, NoMemory}
use Rattle.piece_core.specs.declared.leaves.Leaf.{Leaf}
use Rattle.piece_core.specs.Shapes.{is_due}
use Rattle.piece_core.specs.Evidence.{Over, Under, Closes, MayInline, MaySplit}
use Rattle.piece_core.specs.Refusals.{EventRefused}
use Rattle.piece_core.specs.Book.{Ledger, Same, Booked, entry, Opens, to_come, first_found, least_live}
use Rattle.engine.specs.declared.thoughts.Thought.{Thought}
use Rattle.engine.specs.declared.thoughts.Thought.TheVariants.{Inline as InlineThought, Split as SplitThought, Close as CloseThought, Found as FoundThought}
use Rattle.engine.specs.declared.turns.EventKind.{EventKind}
use Rattle.engine.specs.declared.turns.EventKind.TheVariants.{Inline as InlineKind, Split as SplitKind, Close as CloseKind, Found as FoundKind}
use Rattle.engine.specs.declared.turns.Turned.{Turned}
use Rattle.engine.specs.declared.turns.Turned.TheVariants.{Booked as BookedTurn, Refused as RefusedTurn, NoMemory as NoMemoryTurn}

-- ---- thoughts

-- what may be thought of: the sight's task is one that a book opens, and its tree and piece may be asked
pub record MayThink (task : Task) (tree : List (List ℕ)) (piece : List (List ℕ × Decision2)) : Type 0 where
  pub opens : Opens task
  pub fits : IsPartTree task.flat task.entry task.bound tree
  pub named : IsTrue (are_in (names_of piece) tree)
  pub once : IsTrue (all_differ (names_of piece))

abbrev pub NoUnder : Task → List (List ℕ) → List (List ℕ × Decision2) → Type 0
NoUnder task tree piece = (run : Run) → Under task tree piece run → ⊥

-- By the first case that applies: a member of the under question is Found; where the over question has none it is Close; a due sight is Split on the first undecided
-- site; else it is Inline, of all open sites that a member of the over question passes.
abbrev pub Thinks : Task → List (List ℕ) → List (List ℕ × Decision2) → (inlined : ℕ) → Thought → Type 0
Thinks task tree piece inlined (FoundThought run) = Under task tree piece (run_of run)
Thinks task tree piece inlined (CloseThought proof) = NoUnder task tree piece × Closes task tree piece proof
Thinks task tree piece inlined (SplitThought site) = NoUnder task tree piece × ((run : Run) × Over task tree piece run) × MaySplit task tree piece inlined site × (slice_get (undecided_of tree piece) 0 ≡ Some site)
Thinks task tree piece inlined (InlineThought sites run) = MayInline task tree piece inlined sites (run_of run) × (sites ≡ passed_of task.flat task.entry task.bound tree (run_of run))

-- the site on which a due sight is split
abbrev pub DueIs : Task → List (List ℕ) → List (List ℕ × Decision2) → (inlined : ℕ) → Option (List ℕ) → Type 0
DueIs task tree piece inlined None = is_due task.grain tree piece inlined ≡ false
DueIs task tree piece inlined (Some site) = MaySplit task tree piece inlined site × (slice_get (undecided_of tree piece) 0 ≡ Some site)

-- ---- what is booked

abbrev pub MayBook : Sight → Thought → Type 0
MayBook sight (FoundThought run) = Under (arc_value sight.task) sight.tree sight.piece (run_of run)
MayBook sight (CloseThought proof) = Closes (arc_value sight.task) sight.tree sight.piece proof
MayBook sight (SplitThought site) = MaySplit (arc_value sight.task) sight.tree sight.piece sight.inlined site
MayBook sight (InlineThought sites run) = MayInline (arc_value sight.task) sight.tree sight.piece sight.inlined sites (run_of run)

abbrev pub event_of : Thought → Event
event_of (FoundThought run) = FoundEvent
event_of (CloseThought proof) = CloseEvent
event_of (SplitThought site) = SplitEvent site
event_of (InlineThought sites run) = InlineEvent sites

abbrev pub status_of : Thought → Status2
status_of (FoundThought run) = Found run
status_of (CloseThought proof) = Closed proof
status_of (SplitThought site) = Split site
status_of (InlineThought sites run) = Live

abbrev pub kind_of : Thought → EventKind
kind_of (FoundThought run) = FoundKind
kind_of (CloseThought proof) = CloseKind
kind_of (SplitThought site) = SplitKind
kind_of (InlineThought sites run) = InlineKind

-- the number of the half that nobody holds
abbrev pub ticket_of : (count : ℕ) → Thought → Option ℕ
ticket_of count (FoundThought run) = None
ticket_of count (CloseThought proof) = None
ticket_of count (SplitThought site) = Some (count + 1)
ticket_of count (InlineThought sites run) = None

-- what a settled thought makes of a book
abbrev pub Settled : (old new : Ledger) → (worker : ℕ) → Sight → Thought → Turned → Type 0
Settled old new worker sight thought (BookedTurn kind ticket) =
    EventRefused old.task old.nodes worker sight None × Booked old new (entry worker sight.node (event_of thought)) (status_of thought) × (to_come new < to_come old) × (kind ≡ kind_of thought) × (ticket ≡ ticket_of (length old.nodes) thought)
Settled old new worker sight thought (RefusedTurn e) = EventRefused old.task old.nodes worker sight (Some e) × Same old new
Settled old new worker sight thought NoMemoryTurn = Same old new

abbrev pub turned_of : EventRefusal → Turned
turned_of (NoNode nodes) = RefusedTurn (NoNode nodes)
turned_of (Stale status) = RefusedTurn (Stale status)
turned_of (Held by) = RefusedTurn (Held by)
turned_of NotHeld = RefusedTurn NotHeld
turned_of Moved = RefusedTurn Moved
turned_of NoMemory = NoMemoryTurn

-- a turn that is booked: what was thought of the leaf as it was
pub record TurnedTo (old new : Ledger) (worker node : ℕ) (kind : EventKind) (ticket : Option ℕ) : Type 0 where
  pub leaf : Leaf
  pub at : slice_get old.nodes node ≡ Some leaf
  pub live : leaf.status ≡ Live
  pub held : leaf.holder ≡ Some worker
  pub thought : Thought
  pub thinks : Thinks old.task leaf.tree leaf.piece leaf.inlined thought
  pub booked : Booked old new (entry worker node (event_of thought)) (status_of thought)
  pub falls : to_come new < to_come old
  pub kind_is : kind ≡ kind_of thought
  pub ticket_is : ticket ≡ ticket_of (length old.nodes) thought

-- the worker holds this live leaf
pub record IsHeldBy (l : Ledger) (node worker : ℕ) : Type 0 where
  pub leaf : Leaf
  pub at : slice_get l.nodes node ≡ Some leaf
  pub live : leaf.status ≡ Live
  pub held : leaf.holder ≡ Some worker

pub record IsLive (l : Ledger) (node : ℕ) : Type 0 where
  pub leaf : Leaf
  pub at : slice_get l.nodes node ≡ Some leaf
  pub live : leaf.status ≡ Live

-- what a turn makes of a book; on a live leaf that the worker holds it is not refused
abbrev pub Turns : (old new : Ledger) → (worker node : ℕ) → Turned → Type 0
Turns old new worker node (BookedTurn kind ticket) = TurnedTo old new worker node kind ticket
Turns old new worker node (RefusedTurn e) = Same old new × (IsHeldBy old node worker → ⊥)
Turns old new worker node NoMemoryTurn = Same old new

-- the leaf on which the turns of a worker go on: after an inlining the same, after a split the half that it holds
abbrev pub before_ticket : Option ℕ → Option ℕ
before_ticket None = None
before_ticket (Some free) = Some (free - 1)

abbrev pub next_of : (node : ℕ) → EventKind → Option ℕ → Option ℕ
next_of node InlineKind ticket = Some node
next_of node SplitKind ticket = before_ticket ticket
next_of node CloseKind ticket = None
next_of node FoundKind ticket = None

abbrev pub GoesOn : Ledger → (worker : ℕ) → Option ℕ → Type 0
GoesOn l worker None = Unit {0}
GoesOn l worker (Some node) = IsHeldBy l node worker

-- no leaf is live, or one is Found
abbrev pub IsEnded : Ledger → Type 0
IsEnded l = (least_live 0 l.nodes ≡ None) ⊎ ((node : ℕ) × (first_found l.entries ≡ Some node))
