-- The two halves of a node that was split.
use Rattle.std.specs.Prelude.{◌≡◌, ℕ, suc, ◌+◌, ◌<◌, List, [], ◌∷◌, ◌++◌, length, set, slice_get, Option, None, Some}
use Rattle.call_tree.specs.declared.piece.Decision2.TheVariants.{Must, Avoid}
use Rattle.piece_core.specs.declared.events.Event.{Event}
use Rattle.piece_core.specs.declared.events.Event.TheVariants.{Take, Inline, Split, Close, Found, Back}
use Rattle.piece_core.specs.declared.leaves.Leaf.{Leaf}
use Rattle.piece_core.specs.declared.leaves.Status2.{Status2}
use Rattle.piece_core.specs.declared.leaves.Status2.TheVariants.{Live, Closed as ClosedNode, Found as FoundNode, Split as SplitNode}
use Rattle.piece_core.specs.declared.leaves.StatusKind.TheVariants.{Split as SplitKind}
use Rattle.piece_core.specs.Shapes.{Shape}
use Rattle.piece_core.specs.Evidence.{shapes_of}

-- this node is split on this site, and its halves have these numbers: this one, in which the site is reached, and the next one, in which it is not
pub record HasHalves (nodes : List Shape) (node : ℕ) (site : List ℕ) (first : ℕ) : Type 0 where
  pub shape : Shape
  pub at : slice_get nodes node ≡ Some shape
  pub split : shape.status ≡ SplitKind
  pub must : Shape
  pub at_must : slice_get nodes first ≡ Some must
  pub must_piece : must.piece ≡ shape.piece ++ (site, Must) ∷ []
  pub avoid : Shape
  pub at_avoid : slice_get nodes (suc first) ≡ Some avoid
  pub avoid_piece : avoid.piece ≡ shape.piece ++ (site, Avoid) ∷ []
  pub above : node < first

-- the list has the number of the first half of each split node at the node's place
pub record AreHalves (nodes : List Leaf) (firsts : List ℕ) : Type 0 where
  pub long : length firsts ≡ length nodes
  pub each : (node : ℕ) (leaf : Leaf) (site : List ℕ) → slice_get nodes node ≡ Some leaf → leaf.status ≡ SplitNode site → (first : ℕ) × (slice_get firsts node ≡ Some first) × HasHalves (shapes_of nodes) node site first

-- ---- what an event makes of the list

-- the site of a split
abbrev pub split_of : Event → Option (List ℕ)
split_of Take = None
split_of (Inline sites) = None
split_of (Split site) = Some site
split_of Close = None
split_of Found = None
split_of Back = None

-- the site of a split node
abbrev pub site_of : Status2 → Option (List ℕ)
site_of Live = None
site_of (ClosedNode proof) = None
site_of (FoundNode run) = None
site_of (SplitNode site) = Some site

-- the number of nodes after an event that splits on this site, or does not split
abbrev pub next_after : Option (List ℕ) → ℕ → ℕ
next_after None next = next
next_after (Some site) next = next + 2

-- the first half gets the number of the nodes that there are
abbrev pub firsts_with : Option (List ℕ) → List ℕ → (node count : ℕ) → List ℕ
firsts_with None firsts node count = firsts
firsts_with (Some site) firsts node count = set firsts node count ++ 0 ∷ 0 ∷ []
