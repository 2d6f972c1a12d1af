-- How many events a legal journal has, in all and on the way from the root to a node, and what such a journal keeps.
use Rattle.std.specs.Prelude.{◌≡◌, ◌↔◌, ℕ, ◌+◌, ◌*◌, ◌^◌, ◌≤◌, List, [], ◌∷◌, ◌++◌, set, slice_get, Option, None, Some, All}
use Rattle.flat_prog.specs.Shape.{IsFlat}
use Rattle.call_tree.specs.declared.piece.Decision2.{Decision2}
use Rattle.piece_core.specs.declared.tasks.Task.{Task}
use Rattle.piece_core.specs.declared.events.Event.{Event}
use Rattle.piece_core.specs.declared.events.Event.TheVariants.{Take, Inline, Split, Close, Found, Back}
use Rattle.piece_core.specs.declared.events.Entry.{Entry}
use Rattle.piece_core.specs.Shapes.{AskNothing, Shape, Legal, replay, first, opening, root_alone, first_fault, IsWell, Covers}
use Rattle.piece_core.specs.Evidence.{Asks}
use Rattle.piece_core.specs.Measures.{paths_count}
use Rattle.piece_core.specs.Book.{Opens, IsFoundFirst, first_found}

-- ---- in all

abbrev pub split_count : Event → ℕ
split_count Take = 0
split_count (Inline sites) = 0
split_count (Split site) = 1
split_count Close = 0
split_count Found = 0
split_count Back = 0

abbrev pub inline_count : Event → ℕ
inline_count Take = 0
inline_count (Inline sites) = 1
inline_count (Split site) = 0
inline_count Close = 0
inline_count Found = 0
inline_count Back = 0

abbrev pub splits_in : List Entry → ℕ
splits_in [] = 0
splits_in (e ∷ es) = split_count e.event + splits_in es

abbrev pub inlines_in : List Entry → ℕ
inlines_in [] = 0
inlines_in (e ∷ es) = inline_count e.event + inlines_in es

-- ---- on the way to a node

-- how many Inline events are booked on a node and on the nodes above it, and how many Split events on the nodes above it
pub record Way : Type 0 where
  pub inlines : ℕ
  pub splits : ℕ

abbrev pub way_after : Way → Event → Way
way_after way event = record { inlines = way.inlines + inline_count event; splits = way.splits }

abbrev pub way_below : Way → Way
way_below way = record { inlines = way.inlines; splits = way.splits + 1 }

-- the ways to the halves that an event makes
abbrev pub ways_made : Way → Event → List Way
ways_made way Take = []
ways_made way (Inline sites) = []
ways_made way (Split site) = way_below way ∷ way_below way ∷ []
ways_made way Close = []
ways_made way Found = []
ways_made way Back = []

abbrev pub ways_at : List Way → Entry → Option Way → List Way
ways_at ways e None = ways
ways_at ways e (Some way) = set ways e.node (way_after way e.event) ++ ways_made way e.event

-- the ways to the nodes, by number, after these entries
abbrev pub ways_of : List Way → List Entry → List Way
ways_of ways [] = ways
ways_of ways (e ∷ es) = ways_of (ways_at ways e (slice_get ways e.node)) es

abbrev pub no_ways : List Way
no_ways = record { inlines = 0; splits = 0 } ∷ []

pub record IsShort (bound : ℕ) (way : Way) : Type 0 where
  pub inlines : way.inlines ≤ bound
  pub splits : way.splits ≤ bound

-- ---- laws

-- In a journal that is legal in shape, at most B Inline and at most B Split events are on the way to each node; so there are fewer than 2 ^ B Split and at most
-- B * 2 ^ (B + 1) Inline events.
pub record AreFew (task : Task) (entries : List Entry) : Type 0 where
  pub ways : All (IsShort (paths_count task)) (ways_of no_ways entries)
  pub splits : splits_in entries + 1 ≤ 2 ^ paths_count task
  pub inlines : inlines_in entries ≤ paths_count task * 2 ^ (paths_count task + 1)

abbrev pub CountsLaw : Type 0
CountsLaw =
    (task : Task) (piece : List (List ℕ × Decision2)) (tree : List (List ℕ)) (entries : List Entry) → IsFlat task.flat → IsWell task (first piece tree) → Legal AskNothing task (opening piece tree) entries
    → AreFew task entries

-- a journal that is legal in shape: whatever meets the piece meets exactly one leaf's piece; the trees are partial trees, and the pieces name nodes of them, each once;
-- and the first Found stands
pub record Replayed (task : Task) (piece : List (List ℕ × Decision2)) (tree : List (List ℕ)) (entries : List Entry) : Type 0 where
  pub covers : Covers piece (replay (opening piece tree) entries)
  pub well : All (IsWell task) (replay (opening piece tree) entries)
  pub found : IsFoundFirst (replay (opening piece tree) entries) (first_found entries)

abbrev pub JournalLaw : Type 0
JournalLaw =
    (task : Task) (piece : List (List ℕ × Decision2)) (tree : List (List ℕ)) (entries : List Entry) → IsWell task (first piece tree) → Legal AskNothing task (opening piece tree) entries
    → Replayed task piece tree entries

-- a whole search may begin: the root alone is a partial tree of each task that may be opened
abbrev pub WholeLaw : Type 0
WholeLaw = (task : Task) → Opens task → IsWell task (first [] root_alone)

-- A journal is legal in shape exactly where no entry has a fault, and the journal of a book is so.
pub record AreInShape (task : Task) (nodes : List Shape) (entries : List Entry) : Type 0 where
  pub exact : first_fault task nodes entries ≡ None ↔ Legal AskNothing task nodes entries
  pub books : Legal (Asks task) task nodes entries → Legal AskNothing task nodes entries

abbrev pub FaultLaw : Type 0
FaultLaw = (task : Task) (nodes : List Shape) (entries : List Entry) → AreInShape task nodes entries
