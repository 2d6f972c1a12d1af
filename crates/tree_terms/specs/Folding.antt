-- What may stand in the place of a node: another one of its sort and its value.
use Rattle.std.specs.Prelude.{◌≡◌, ℕ, Bool, List, if◌then◌else◌, Some, IsTrue}
use Rattle.hy_val.specs.Sorts.{scalar_of}
use Rattle.hy_val.specs.Values.{is_on}
use Rattle.hy_val.specs.declared.atom.Atom.{Atom}
use Rattle.hy_val.specs.declared.atom.AtomKind.TheVariants.{Bool as BoolAtom}
use Rattle.hy_val.specs.declared.sort.Sort.{Sort}
use Rattle.hy_val.specs.declared.sort.ScalarKind.TheVariants.{Bool as BoolSort}
use Rattle.hy_val.specs.declared.sort.SortKind.TheVariants.{Scalar as ScalarSort}
use Rattle.hy_val.specs.declared.value.Value.{Value}
use Rattle.hy_val.specs.declared.value.Value.TheVariants.{Atom as AtomValue}
use Rattle.hy_term.specs.TermSorts.{fits_behind, sort_at, sort_behind}
use Rattle.hy_term.specs.Meaning.{fits, node_fits, node_value, value, values}
use Rattle.hy_term.specs.Variables.{node_below}
use Rattle.hy_term.specs.declared.node.TermNode.{TermNode}
use Rattle.tree_terms.specs.declared.folding.Folded.{Folded}
use Rattle.tree_terms.specs.declared.folding.Folded.TheVariants.{Known, Node}

abbrev pub bool_sort : Sort
bool_sort = ScalarSort BoolSort

-- a node that is there has the sort and the value of one that may stand behind
pub record IsKnown (nodes : List TermNode) (node : TermNode) (t : ℕ) : Type 0 where
  pub sort : sort_at nodes t ≡ sort_behind nodes node
  pub value : (a : ℕ → Value) → IsTrue (fits a nodes) → value a nodes t ≡ node_value a (values a nodes) node

-- another node may stand behind in its place, and is no other variable
pub record IsLike (nodes : List TermNode) (node other : TermNode) : Type 0 where
  pub behind : IsTrue (fits_behind nodes other)
  pub sort : sort_behind nodes other ≡ sort_behind nodes node
  pub value : (a : ℕ → Value) → IsTrue (fits a nodes) → node_value a (values a nodes) other ≡ node_value a (values a nodes) node
  pub fit : (a : ℕ → Value) → IsTrue (node_fits a node) → IsTrue (node_fits a other)
  pub low : (k : ℕ) → IsTrue (node_below k node) → IsTrue (node_below k other)

abbrev pub IsFolded : List TermNode → TermNode → Folded → Type 0
IsFolded nodes node (Known t) = IsKnown nodes node t
IsFolded nodes node (Node other) = IsLike nodes node other

-- the node has this value under every assignment that fits
pub record IsConstant (nodes : List TermNode) (node : TermNode) (v : Atom) : Type 0 where
  pub sort : sort_behind nodes node ≡ Some (ScalarSort (scalar_of v))
  pub value : (a : ℕ → Value) → IsTrue (fits a nodes) → node_value a (values a nodes) node ≡ AtomValue v

-- the node is a bool, and this function of another
pub record IsByTruth (nodes : List TermNode) (node : TermNode) (child : ℕ) (low high : Bool) : Type 0 where
  pub bool : sort_at nodes child ≡ Some bool_sort
  pub sort : sort_behind nodes node ≡ Some bool_sort
  pub value : (a : ℕ → Value) → IsTrue (fits a nodes)
      → node_value a (values a nodes) node ≡ AtomValue (BoolAtom (if is_on (value a nodes child) then high else low))
