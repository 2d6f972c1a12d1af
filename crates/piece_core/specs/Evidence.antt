-- What the events with evidence ask of a leaf, and the evidence that closed and found nodes keep.
use Rattle.std.specs.Prelude.{◌≡◌, ℕ, true, false, List, [], map, IsTrue}
use Rattle.cnf_form.specs.declared.refuted.Refuted.{Refuted}
use Rattle.flat_prog.specs.Trees.{Run}
use Rattle.flat_prog.specs.Nodes.{run_of}
use Rattle.call_tree.specs.declared.piece.Decision2.{Decision2}
use Rattle.call_tree.specs.Trees.{has_path, are_in}
use Rattle.call_tree.specs.Pieces.{undecided_of}
use Rattle.call_tree.specs.Questions.{frees_of, IsOver, IsUnder}
use Rattle.call_tree.specs.Standing.{StandsFor}
use Rattle.piece_core.specs.declared.tasks.Task.{Task}
use Rattle.piece_core.specs.declared.events.Event.TheVariants.{Take as TakeEvent, Inline as InlineEvent, Split as SplitEvent, Close as CloseEvent, Found as FoundEvent, Back as BackEvent}
use Rattle.piece_core.specs.declared.leaves.Status2.{Status2}
use Rattle.piece_core.specs.declared.leaves.Status2.TheVariants.{Live, Closed, Found, Split}
use Rattle.piece_core.specs.declared.leaves.Leaf.{Leaf}
use Rattle.piece_core.specs.declared.leaves.StatusKind.{StatusKind}
use Rattle.piece_core.specs.declared.leaves.StatusKind.TheVariants.{Live as LiveKind, Closed as ClosedKind, Found as FoundKind, Split as SplitKind}
use Rattle.piece_core.specs.Shapes.{Shape, Ask, IsWell, is_due, can_grow}

-- ---- the questions of a task

-- Over(T, p) of the task has this member
abbrev pub Over : Task → (tree : List (List ℕ)) → (piece : List (List ℕ × Decision2)) → Run → Type 0
Over task tree piece run = IsOver task.flat task.entry task.bound tree piece run

-- Under(T, p) of the task has this member
abbrev pub Under : Task → (tree : List (List ℕ)) → (piece : List (List ℕ × Decision2)) → Run → Type 0
Under task tree piece run = IsUnder task.flat task.entry task.bound tree piece run

-- the clauses, which their log refutes, can be met exactly where the over question has a member: so it has none
abbrev pub Closes : Task → (tree : List (List ℕ)) → (piece : List (List ℕ × Decision2)) → Refuted → Type 0
Closes task tree piece proof = StandsFor proof.cnf.variables proof.cnf.clauses task.flat task.entry task.bound tree piece

-- What is asked of a sight where sites of it are inlined: it isn't due; the sites are some, open and different; the under question has no member; and this member of
-- the over question passes all of them.
pub record MayInline (task : Task) (tree : List (List ℕ)) (piece : List (List ℕ × Decision2)) (inlined : ℕ) (sites : List (List ℕ)) (run : Run) : Type 0 where
  pub undue : is_due task.grain tree piece inlined ≡ false
  pub can : IsTrue (can_grow task tree sites)
  pub no_under : (other : Run) → Under task tree piece other → ⊥
  pub over : Over task tree piece run
  pub passes : IsTrue (are_in sites (frees_of run task.flat []))

-- what is asked of a sight where it is split: it is due, and the site is undecided
pub record MaySplit (task : Task) (tree : List (List ℕ)) (piece : List (List ℕ × Decision2)) (inlined : ℕ) (site : List ℕ) : Type 0 where
  pub due : is_due task.grain tree piece inlined ≡ true
  pub free : IsTrue (has_path (undecided_of tree piece) site)

-- the under question has no member, and one of the over question passes all sites
pub record IsLazy (task : Task) (tree : List (List ℕ)) (piece : List (List ℕ × Decision2)) (sites : List (List ℕ)) : Type 0 where
  pub no_under : (run : Run) → Under task tree piece run → ⊥
  pub run : Run
  pub over : Over task tree piece run
  pub passes : IsTrue (are_in sites (frees_of run task.flat []))

-- what is asked of a leaf where an event is booked
abbrev pub Asks : Task → Ask
Asks task s TakeEvent = Unit {0}
Asks task s (InlineEvent sites) = IsLazy task s.tree s.piece sites
Asks task s (SplitEvent site) = Unit {0}
Asks task s CloseEvent = (proof : Refuted) × Closes task s.tree s.piece proof
Asks task s FoundEvent = (run : Run) × Under task s.tree s.piece run
Asks task s BackEvent = Unit {0}

-- ---- nodes with their evidence

abbrev pub kind_of : Status2 → StatusKind
kind_of Live = LiveKind
kind_of (Closed proof) = ClosedKind
kind_of (Found run) = FoundKind
kind_of (Split site) = SplitKind

abbrev pub shape_of : Leaf → Shape
shape_of leaf = record { piece = leaf.piece; tree = leaf.tree; inlined = leaf.inlined; holder = leaf.holder; status = kind_of leaf.status }

abbrev pub shapes_of : List Leaf → List Shape
shapes_of nodes = map shape_of nodes

-- the evidence of a node is true
abbrev pub Evidence : Task → (tree : List (List ℕ)) → (piece : List (List ℕ × Decision2)) → Status2 → Type 0
Evidence task tree piece Live = Unit {0}
Evidence task tree piece (Closed proof) = Closes task tree piece proof
Evidence task tree piece (Found run) = Under task tree piece (run_of run)
Evidence task tree piece (Split site) = Unit {0}

pub record IsFine (task : Task) (leaf : Leaf) : Type 0 where
  pub well : IsWell task (shape_of leaf)
  pub evidence : Evidence task leaf.tree leaf.piece leaf.status
