-- How much is left to do: a number that each event which changes a leaf lowers, and the shares of the leaves.
use Rattle.std.specs.Prelude.{ℕ, ◌+◌, ◌-◌, ◌^◌, sum_by, Bool, true, false, List, length}
use Rattle.call_tree.specs.AllPaths.{all_paths}
use Rattle.piece_core.specs.declared.tasks.Task.{Task}
use Rattle.piece_core.specs.declared.events.Event.{Event}
use Rattle.piece_core.specs.declared.events.Event.TheVariants.{Take, Inline, Split, Close, Found, Back}
use Rattle.piece_core.specs.declared.leaves.StatusKind.{StatusKind}
use Rattle.piece_core.specs.declared.leaves.StatusKind.TheVariants.{Live as LiveKind, Closed as ClosedKind, Found as FoundKind, Split as SplitKind}
use Rattle.piece_core.specs.Shapes.{Shape}

-- B, the number of paths within the caps
abbrev pub paths_count : Task → ℕ
paths_count task = length (all_paths task.flat task.entry task.bound)

abbrev pub live_weight : StatusKind → ℕ → ℕ
live_weight LiveKind n = n
live_weight ClosedKind n = 0
live_weight FoundKind n = 0
live_weight SplitKind n = 0

-- more than the events that change a leaf which can still come on a leaf and below it, where at most b paths are within the caps
abbrev pub weight : ℕ → Shape → ℕ
weight b s = live_weight s.status (3 ^ ((b - length s.tree) + (b - length s.piece)))

abbrev pub potential : ℕ → List Shape → ℕ
potential b nodes = sum_by (weight b) nodes

-- the events that lower it; Take and Back leave it
abbrev pub is_progress : Event → Bool
is_progress Take = false
is_progress (Inline sites) = true
is_progress (Split site) = true
is_progress Close = true
is_progress Found = true
is_progress Back = false

-- the share of a leaf in 2 ^ b: each decision halves it
abbrev pub leaf_share : StatusKind → ℕ → ℕ
leaf_share LiveKind n = n
leaf_share ClosedKind n = n
leaf_share FoundKind n = n
leaf_share SplitKind n = 0

abbrev pub share : ℕ → Shape → ℕ
share b s = leaf_share s.status (2 ^ (b - length s.piece))
