-- The table of the book (after Hydra, FMCAD 2020): nodes without their evidence, which events are legal on them, and what each event changes.
use Rattle.std.specs.Prelude.{◌≡◌, ℕ, ◌+◌, nat_eq, nat_le, Bool, true, false, ◌&&◌, List, [], ◌∷◌, ◌++◌, length, set, slice_get, Option, None, Some, IsTrue, count_by, if◌then◌else◌}
use Rattle.call_tree.specs.declared.piece.Decision2.{Decision2}
use Rattle.call_tree.specs.declared.piece.Decision2.TheVariants.{Must, Avoid}
use Rattle.call_tree.specs.Trees.{has_path, are_in, all_differ, IsPartTree, open_of}
use Rattle.call_tree.specs.Pieces.{meets, names_of, undecided_of}
use Rattle.piece_core.specs.declared.tasks.Task.{Task}
use Rattle.piece_core.specs.declared.events.Event.{Event}
use Rattle.piece_core.specs.declared.events.Event.TheVariants.{Take, Inline, Split, Close, Found, Back}
use Rattle.piece_core.specs.declared.events.Entry.{Entry}
use Rattle.piece_core.specs.declared.leaves.StatusKind.{StatusKind}
use Rattle.piece_core.specs.declared.leaves.StatusKind.TheVariants.{Live as LiveKind, Closed as ClosedKind, Found as FoundKind, Split as SplitKind}

-- a node without its evidence
pub record Shape : Type 0 where
  pub piece : List (List ℕ × Decision2)
  pub tree : List (List ℕ)
  pub inlined : ℕ
  pub holder : Option ℕ
  pub status : StatusKind

abbrev pub is_live : StatusKind → Bool
is_live LiveKind = true
is_live ClosedKind = false
is_live FoundKind = false
is_live SplitKind = false

-- a node that is not split
abbrev pub is_leaf : StatusKind → Bool
is_leaf LiveKind = true
is_leaf ClosedKind = true
is_leaf FoundKind = true
is_leaf SplitKind = false

abbrev pub is_found : StatusKind → Bool
is_found LiveKind = false
is_found ClosedKind = false
is_found FoundKind = true
is_found SplitKind = false

abbrev pub has_some : List (List ℕ) → Bool
has_some [] = false
has_some (p ∷ ps) = true

-- a leaf is due where it has inlined as much as the grain, and a site of it is undecided
abbrev pub is_due : (grain : ℕ) → List (List ℕ) → List (List ℕ × Decision2) → (inlined : ℕ) → Bool
is_due grain tree piece inlined = nat_le grain inlined && has_some (undecided_of tree piece)

-- some sites, all open and different
abbrev pub can_grow : Task → List (List ℕ) → List (List ℕ) → Bool
can_grow task tree sites = has_some sites && (are_in sites (open_of task.flat task.entry task.bound tree) && all_differ sites)

-- ---- which events are legal, but for what they ask of the questions

pub data Fault : Type 0 where
  NoNode : Fault
  NotLive : Fault
  Held : Fault
  NotHeld : Fault
  Due : Fault
  NotOpen : Fault
  NotDue : Fault
  Decided : Fault

abbrev pub take_fault : Option ℕ → Option Fault
take_fault None = None
take_fault (Some by) = Some Held

abbrev pub back_fault : Option ℕ → Option Fault
back_fault None = Some NotHeld
back_fault (Some by) = None

-- the fault of an event that only the holder may book, where the holder's has this one
abbrev pub held_fault : Option ℕ → ℕ → Option Fault → Option Fault
held_fault None worker later = Some NotHeld
held_fault (Some by) worker later = if nat_eq by worker then later else Some NotHeld

abbrev pub grow_fault : (due can : Bool) → Option Fault
grow_fault true can = Some Due
grow_fault false false = Some NotOpen
grow_fault false true = None

abbrev pub split_fault : (due is_undecided : Bool) → Option Fault
split_fault false is_undecided = Some NotDue
split_fault true false = Some Decided
split_fault true true = None

abbrev pub live_fault : Task → Shape → ℕ → Event → Option Fault
live_fault task s worker Take = take_fault s.holder
live_fault task s worker (Inline sites) = held_fault s.holder worker (grow_fault (is_due task.grain s.tree s.piece s.inlined) (can_grow task s.tree sites))
live_fault task s worker (Split site) = held_fault s.holder worker (split_fault (is_due task.grain s.tree s.piece s.inlined) (has_path (undecided_of s.tree s.piece) site))
live_fault task s worker Close = held_fault s.holder worker None
live_fault task s worker Found = held_fault s.holder worker None
live_fault task s worker Back = back_fault s.holder

abbrev pub status_fault : StatusKind → Option Fault → Option Fault
status_fault LiveKind later = later
status_fault ClosedKind later = Some NotLive
status_fault FoundKind later = Some NotLive
status_fault SplitKind later = Some NotLive

-- the first fault of an entry, if it has any
abbrev pub fault_at : Task → Option Shape → Entry → Option Fault
fault_at task None e = Some NoNode
fault_at task (Some s) e = status_fault s.status (live_fault task s e.worker e.event)

-- ---- what an event changes

abbrev pub changed : Shape → (worker : ℕ) → Event → Shape
changed s worker Take = record s { holder = Some worker }
changed s worker (Inline sites) = record s { tree = s.tree ++ sites; inlined = s.inlined + length sites }
changed s worker (Split site) = record s { status = SplitKind }
changed s worker Close = record s { status = ClosedKind }
changed s worker Found = record s { status = FoundKind }
changed s worker Back = record s { holder = None }

abbrev pub half : Shape → Option ℕ → List ℕ → Decision2 → Shape
half s holder site way = record { piece = s.piece ++ (site, way) ∷ []; tree = s.tree; inlined = 0; holder = holder; status = LiveKind }

-- the leaves that an event makes: the half in which the site is reached, which the worker holds, and the other one, which is free
abbrev pub made : Shape → (worker : ℕ) → Event → List Shape
made s worker Take = []
made s worker (Inline sites) = []
made s worker (Split site) = half s (Some worker) site Must ∷ half s None site Avoid ∷ []
made s worker Close = []
made s worker Found = []
made s worker Back = []

abbrev pub after_at : List Shape → Entry → Option Shape → List Shape
after_at nodes e None = nodes
after_at nodes e (Some s) = set nodes e.node (changed s e.worker e.event) ++ made s e.worker e.event

abbrev pub after : List Shape → Entry → List Shape
after nodes e = after_at nodes e (slice_get nodes e.node)

abbrev pub replay : List Shape → List Entry → List Shape
replay nodes [] = nodes
replay nodes (e ∷ es) = replay (after nodes e) es

-- a table opens with one free live leaf, of this piece and this tree
abbrev pub first : (piece : List (List ℕ × Decision2)) → (tree : List (List ℕ)) → Shape
first piece tree = record { piece = piece; tree = tree; inlined = 0; holder = None; status = LiveKind }

abbrev pub opening : (piece : List (List ℕ × Decision2)) → (tree : List (List ℕ)) → List Shape
opening piece tree = first piece tree ∷ []

-- the tree with which a whole search begins
abbrev pub root_alone : List (List ℕ)
root_alone = [] ∷ []

-- ---- legal journals

-- what is asked of a leaf where an event is booked, beside what the table says
abbrev pub Ask : Type 1
Ask = Shape → Event → Type 0

abbrev pub AskNothing : Ask
AskNothing s event = Unit {0}

abbrev pub AskAt : Ask → Option Shape → Event → Type 0
AskAt ask None event = ⊥
AskAt ask (Some s) event = ask s event

-- each entry has no fault in the nodes that the earlier ones give, and what is asked of its leaf is so
abbrev pub Legal : Ask → Task → List Shape → List Entry → Type 0
Legal ask task nodes [] = Unit {0}
Legal ask task nodes (e ∷ es) = (fault_at task (slice_get nodes e.node) e ≡ None) × AskAt ask (slice_get nodes e.node) e.event × Legal ask task (after nodes e) es

abbrev pub counted : Option (ℕ × Fault) → Option (ℕ × Fault)
counted None = None
counted (Some (index, fault)) = Some (index + 1, fault)

abbrev pub fault_or : Option Fault → Option (ℕ × Fault) → Option (ℕ × Fault)
fault_or None later = counted later
fault_or (Some fault) later = Some (0, fault)

-- the first entry that has a fault, and this, if any has
abbrev pub first_fault : Task → List Shape → List Entry → Option (ℕ × Fault)
first_fault task nodes [] = None
first_fault task nodes (e ∷ es) = fault_or (fault_at task (slice_get nodes e.node) e) (first_fault task (after nodes e) es)

-- ---- what every legal journal keeps

-- the tree is a partial tree of the task, and the piece names nodes of it, each once
pub record IsWell (task : Task) (s : Shape) : Type 0 where
  pub tree : IsPartTree task.flat task.entry task.bound s.tree
  pub named : IsTrue (are_in (names_of s.piece) s.tree)
  pub once : IsTrue (all_differ (names_of s.piece))

-- a leaf whose piece is met by these paths
abbrev pub is_met : (List ℕ → Bool) → Shape → Bool
is_met reached s = is_leaf s.status && meets reached s.piece

-- whatever is reached meets exactly one leaf's piece where it meets this one, and none where it does not
abbrev pub Covers : (piece : List (List ℕ × Decision2)) → List Shape → Type 0
Covers piece nodes = (reached : List ℕ → Bool) → count_by (is_met reached) nodes ≡ (if meets reached piece then 1 else 0)
