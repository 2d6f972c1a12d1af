-- The sort of a node from those of its children, and None where they don't fit.
use Rattle.std.specs.Prelude.{Bool, false, ◌&&◌, Option, None, Some, if◌then◌else◌}
use Rattle.hy_val.specs.Sorts.{is_scalar, same_scalar}
use Rattle.hy_val.specs.Operators.{sort_of_unary, sort_of_binary}
use Rattle.hy_val.specs.declared.sort.Scalar.{Scalar}
use Rattle.hy_val.specs.declared.sort.ScalarKind.TheVariants.{Bool as BoolSort, Bv as BvSort}
use Rattle.hy_val.specs.declared.sort.Sort.{Sort}
use Rattle.hy_val.specs.declared.sort.SortKind.TheVariants.{Scalar as ScalarSort, Map as MapSort}
use Rattle.hy_val.specs.declared.operator.UnOp.{UnOp}
use Rattle.hy_val.specs.declared.operator.BvOp.{BvOp}

-- widths are 1 to 64
abbrev pub is_sort : Sort → Bool
is_sort (ScalarSort s) = is_scalar s
is_sort (MapSort index elem) = is_scalar index && is_scalar elem

abbrev pub same_sort : Sort → Sort → Bool
same_sort (ScalarSort s) (ScalarSort t) = same_scalar s t
same_sort (ScalarSort s) (MapSort index elem) = false
same_sort (MapSort index elem) (ScalarSort t) = false
same_sort (MapSort index elem) (MapSort index' elem') = same_scalar index index' && same_scalar elem elem'

abbrev pub as_sort : Option Scalar → Option Sort
as_sort None = None
as_sort (Some s) = Some (ScalarSort s)

-- a scalar sort that is there
abbrev pub as_scalar : Option Sort → Option Scalar
as_scalar None = None
as_scalar (Some (ScalarSort s)) = Some s
as_scalar (Some (MapSort index elem)) = None

abbrev pub unary_sort : UnOp → Option Scalar → Option Sort
unary_sort op None = None
unary_sort op (Some s) = as_sort (sort_of_unary op s)

abbrev pub binary_sort : BvOp → Option Scalar → Option Scalar → Option Sort
binary_sort op None t = None
binary_sort op (Some s) None = None
binary_sort op (Some s) (Some t) = as_sort (sort_of_binary op s t)

-- both branches have one sort
abbrev pub branch_sort : Option Sort → Option Sort → Option Sort
branch_sort None other = None
branch_sort (Some one) None = None
branch_sort (Some one) (Some other) = if same_sort one other then Some one else None

abbrev pub if_sort : Option Scalar → Option Sort → Option Sort → Option Sort
if_sort None one other = None
if_sort (Some BoolSort) one other = branch_sort one other
if_sort (Some (BvSort w)) one other = None

-- the index has the map's index sort
abbrev pub entry_sort : Scalar → Scalar → Option Scalar → Option Sort
entry_sort index elem None = None
entry_sort index elem (Some s) = if same_scalar s index then Some (ScalarSort elem) else None

abbrev pub select_sort : Option Sort → Option Scalar → Option Sort
select_sort None i = None
select_sort (Some (ScalarSort s)) i = None
select_sort (Some (MapSort index elem)) i = entry_sort index elem i

-- index and entry have the map's sorts
abbrev pub written_sort : Scalar → Scalar → Option Scalar → Option Scalar → Option Sort
written_sort index elem None v = None
written_sort index elem (Some s) None = None
written_sort index elem (Some s) (Some t) = if same_scalar s index && same_scalar t elem then Some (MapSort index elem) else None

abbrev pub store_sort : Option Sort → Option Scalar → Option Scalar → Option Sort
store_sort None i v = None
store_sort (Some (ScalarSort s)) i v = None
store_sort (Some (MapSort index elem)) i v = written_sort index elem i v
