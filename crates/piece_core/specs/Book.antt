-- The book: nodes with their evidence and a journal that gives them, what is read off it, and what contracts see of it.
use Rattle.std.specs.Prelude.{◌≡◌, ℕ, suc, ◌+◌, ◌≤◌, ◌<◌, Bool, true, false, ◌&&◌, List, [], ◌∷◌, ◌++◌, length, set, map, slice_get, Option, None, Some, All, count_by}
use Rattle.flat_prog.specs.Shape.{IsFlat}
use Rattle.flat_prog.specs.Trees.{Run}
use Rattle.flat_prog.specs.Runs.{IsFull, FailsIn}
use Rattle.call_tree.specs.declared.piece.Decision2.{Decision2}
use Rattle.piece_core.specs.declared.tasks.Task.{Task}
use Rattle.piece_core.specs.declared.events.Event.{Event}
use Rattle.piece_core.specs.declared.events.Event.TheVariants.{Take as TakeEvent, Inline as InlineEvent, Split as SplitEvent, Close as CloseEvent, Found as FoundEvent, Back as BackEvent}
use Rattle.piece_core.specs.declared.events.Entry.{Entry}
use Rattle.piece_core.specs.declared.leaves.Status2.{Status2}
use Rattle.piece_core.specs.declared.leaves.Status2.TheVariants.{Live}
use Rattle.piece_core.specs.declared.leaves.Leaf.{Leaf}
use Rattle.piece_core.specs.declared.leaves.StatusKind.{StatusKind}
use Rattle.piece_core.specs.declared.leaves.StatusKind.TheVariants.{Live as LiveKind, Closed as ClosedKind, Found as FoundKind, Split as SplitKind}
use Rattle.piece_core.specs.declared.verdicts.Verdict2.{Verdict2}
use Rattle.piece_core.specs.declared.verdicts.Verdict2.TheVariants.{Bug, Safe, Unfinished}
use Rattle.piece_core.specs.Shapes.{Shape, Legal, replay, first, opening, root_alone, changed, made, IsWell, Covers, is_live, is_found}
use Rattle.piece_core.specs.Evidence.{Asks, IsFine, kind_of, shape_of, shapes_of}
use Rattle.piece_core.specs.Halves.{AreHalves}
use Rattle.piece_core.specs.Measures.{paths_count, potential}

-- ---- the first Found of a journal

abbrev pub found_or : Event → ℕ → Option ℕ → Option ℕ
found_or TakeEvent node later = later
found_or (InlineEvent sites) node later = later
found_or (SplitEvent site) node later = later
found_or CloseEvent node later = later
found_or FoundEvent node later = Some node
found_or BackEvent node later = later

abbrev pub first_found : List Entry → Option ℕ
first_found [] = None
first_found (e ∷ es) = found_or e.event e.node (first_found es)

-- the node of the first Found is Found; where there is none, no node is
abbrev pub IsFoundFirst : List Shape → Option ℕ → Type 0
IsFoundFirst nodes None = All (λ s. is_found s.status ≡ false) nodes
IsFoundFirst nodes (Some node) = (s : Shape) × (slice_get nodes node ≡ Some s) × (s.status ≡ FoundKind)

-- ---- sound books

-- what is asked of a task: the entry is there, the bound is 1 to 1000, and the grain at least 1
pub record Opens (task : Task) : Type 0 where
  pub entry_is : task.entry < length task.flat.procs
  pub low : 1 ≤ task.bound
  pub high : task.bound ≤ 1000
  pub grain_is : 1 ≤ task.grain

-- A book of one piece, opened with this tree: a legal journal gives its nodes, their evidence is true, whatever meets the piece meets exactly one leaf's piece, and the
-- first Found stands.
pub record IsSoundFor (task : Task) (piece : List (List ℕ × Decision2)) (tree : List (List ℕ)) (nodes : List Leaf) (entries : List Entry) : Type 0 where
  pub asked : Opens task
  pub starts : IsWell task (first piece tree)
  pub legal : Legal (Asks task) task (opening piece tree) entries
  pub gives : replay (opening piece tree) entries ≡ shapes_of nodes
  pub fine : All (IsFine task) nodes
  pub covers : Covers piece (shapes_of nodes)
  pub found : IsFoundFirst (shapes_of nodes) (first_found entries)

-- a book of the whole search: it opens with the empty piece and the root alone
abbrev pub IsSound : Task → List Leaf → List Entry → Type 0
IsSound task nodes entries = IsSoundFor task [] root_alone nodes entries

-- ---- the verdict

-- some tree of the full inlining fails
abbrev pub IsUnsafe : Task → Type 0
IsUnsafe task = (run : Run) × (proc : ℕ) × (number : ℕ) × IsFull task.flat task.entry task.bound run × FailsIn task.flat task.entry run proc number

-- closed, or no leaf
abbrev pub is_closed : StatusKind → Bool
is_closed LiveKind = false
is_closed ClosedKind = true
is_closed FoundKind = false
is_closed SplitKind = true

-- all leaves are closed
abbrev pub all_closed : List Shape → Bool
all_closed [] = true
all_closed (s ∷ nodes) = is_closed s.status && all_closed nodes

abbrev pub verdict_with : Option ℕ → (closed : Bool) → Verdict2
verdict_with (Some node) closed = Bug node
verdict_with None true = Safe
verdict_with None false = Unfinished

abbrev pub verdict_of : List Shape → List Entry → Verdict2
verdict_of nodes entries = verdict_with (first_found entries) (all_closed nodes)

-- what a verdict says of the full inlining
abbrev pub Says : Task → Verdict2 → Type 0
Says task (Bug node) = IsUnsafe task
Says task Safe = IsUnsafe task → ⊥
Says task Unfinished = Unit {0}

-- ---- the least live leaf

abbrev pub live_or : Bool → ℕ → Option ℕ → Option ℕ
live_or true node later = Some node
live_or false node later = later

-- the least live leaf, where the first node has this number
abbrev pub least_live : ℕ → List Leaf → Option ℕ
least_live node [] = None
least_live node (leaf ∷ nodes) = live_or (is_live (kind_of leaf.status)) node (least_live (node + 1) nodes)

abbrev pub settled_or : Bool → ℕ → ℕ
settled_or true later = 0
settled_or false later = suc later

-- how many nodes stand before the least live leaf; all where none is live
abbrev pub settled_of : List Leaf → ℕ
settled_of [] = 0
settled_of (leaf ∷ nodes) = settled_or (is_live (kind_of leaf.status)) (settled_of nodes)

-- the first of two nodes that were found
abbrev pub found_first : Option ℕ → ℕ → Option ℕ
found_first None node = Some node
found_first (Some earlier) node = Some earlier

-- ---- what contracts see of a book

-- spare counts the events that can be booked without memory
pub record Ledger : Type 0 where
  pub task : Task
  pub nodes : List Leaf
  pub entries : List Entry
  pub spare : ℕ

-- all but spare
pub record Same (old new : Ledger) : Type 0 where
  pub task : new.task ≡ old.task
  pub nodes : new.nodes ≡ old.nodes
  pub entries : new.entries ≡ old.entries

abbrev pub opening_leaves : List Leaf
opening_leaves = record { piece = []; tree = root_alone; inlined = 0; holder = None; status = Live } ∷ []

abbrev pub entry : (worker node : ℕ) → Event → Entry
entry worker node event = record { worker = worker; node = node; event = event }

-- a node of this shape, with this status and its evidence
abbrev pub leaf_with : Shape → Status2 → Leaf
leaf_with s status = record { piece = s.piece; tree = s.tree; inlined = s.inlined; holder = s.holder; status = status }

abbrev pub live_leaf : Shape → Leaf
live_leaf s = leaf_with s Live

-- the table of events over nodes with their evidence: the node of the entry has this status then, and what is made is live
abbrev pub written_at : List Leaf → Entry → Status2 → Option Leaf → List Leaf
written_at nodes e status None = nodes
written_at nodes e status (Some leaf) = set nodes e.node (leaf_with (changed (shape_of leaf) e.worker e.event) status) ++ map live_leaf (made (shape_of leaf) e.worker e.event)

abbrev pub written : List Leaf → Entry → Status2 → List Leaf
written nodes e status = written_at nodes e status (slice_get nodes e.node)

-- the entry is booked, and its node has this status then
pub record Booked (old new : Ledger) (e : Entry) (status : Status2) : Type 0 where
  pub task : new.task ≡ old.task
  pub nodes : new.nodes ≡ written old.nodes e status
  pub entries : new.entries ≡ old.entries ++ e ∷ []

-- what is left to do: Inline, Split, Close and Found lower it
abbrev pub to_come : Ledger → ℕ
to_come l = potential (paths_count l.task) (shapes_of l.nodes)

-- ---- what the type of a book keeps

abbrev pub is_taken : Option ℕ → Bool
is_taken None = false
is_taken (Some w) = true

-- a live leaf that somebody holds
abbrev pub is_held : Shape → Bool
is_held s = is_live s.status && is_taken s.holder

-- it is sound, it counts the held live leaves, and its journal has memory for one event of each
pub record IsKept (task : Task) (nodes : List Leaf) (entries : List Entry) (held capacity : ℕ) : Type 0 where
  pub flat_is : IsFlat task.flat
  pub sound : IsSound task nodes entries
  pub counts : held ≡ count_by is_held (shapes_of nodes)
  pub room : length entries + held ≤ capacity

-- what it keeps so that nothing has to be searched for: the halves of each split node, how many nodes stand before the least live leaf, and the first that was found
pub record IsIndexed (nodes : List Leaf) (entries : List Entry) (firsts : List ℕ) (settled : ℕ) (found : Option ℕ) : Type 0 where
  pub halves : AreHalves nodes firsts
  pub settled_is : settled ≡ settled_of nodes
  pub found_is : found ≡ first_found entries
