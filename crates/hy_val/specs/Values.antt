-- Values of all sorts: the zero of a sort, which sort a value has, and what a node of an expression or a term makes of the values of its
-- children. A part that isn't there, or is of another kind, is read as false or as an empty map; where the sorts fit none is.
use Rattle.std.specs.Prelude.{ℕ, Bool, false, ◌&&◌, List, [], slice_get, Option, None, Some, if◌then◌else◌}
use Rattle.hy_val.specs.Sorts.{scalar_of, same_scalar, has_scalar, zero_of_scalar}
use Rattle.hy_val.specs.Operators.{apply, apply1}
use Rattle.hy_val.specs.Table.{Table}
use Rattle.hy_val.specs.Maps.{is_map, select, stored}
use Rattle.hy_val.specs.declared.sort.ScalarKind.TheVariants.{Bool as BoolSort}
use Rattle.hy_val.specs.declared.sort.Sort.{Sort}
use Rattle.hy_val.specs.declared.sort.SortKind.TheVariants.{Scalar as ScalarSort, Map as MapSort}
use Rattle.hy_val.specs.declared.atom.Atom.{Atom}
use Rattle.hy_val.specs.declared.atom.AtomKind.TheVariants.{Bool as BoolAtom, Bv as BvAtom}
use Rattle.hy_val.specs.declared.operator.UnOp.{UnOp}
use Rattle.hy_val.specs.declared.operator.BvOp.{BvOp}
use Rattle.hy_val.specs.declared.value.Value.{Value}
use Rattle.hy_val.specs.declared.value.Value.TheVariants.{Atom as AtomValue, Map as MapValue}

-- false, the bits 0, or the map that is zero everywhere
abbrev pub zero_of : Sort → Value
zero_of (ScalarSort s) = AtomValue (zero_of_scalar s)
zero_of (MapSort index elem) = MapValue (record { index = index; elem = elem; pairs = [] })

-- the sort that a value has
abbrev pub sort_of : Value → Sort
sort_of (AtomValue a) = ScalarSort (scalar_of a)
sort_of (MapValue m) = MapSort m.index m.elem

-- a value of the sort
abbrev pub has_sort : Value → Sort → Bool
has_sort (AtomValue a) (ScalarSort s) = has_scalar a s
has_sort (AtomValue a) (MapSort index elem) = false
has_sort (MapValue m) (ScalarSort s) = false
has_sort (MapValue m) (MapSort index elem) = same_scalar m.index index && same_scalar m.elem elem && is_map m

-- what stands at a place of a list of values
abbrev pub default : Option Value → Value
default None = AtomValue (BoolAtom false)
default (Some v) = v

abbrev pub at : List Value → ℕ → Value
at vs i = default (slice_get vs i)

abbrev pub atom_of : Value → Atom
atom_of (AtomValue a) = a
atom_of (MapValue m) = BoolAtom false

abbrev pub table_of : Value → Table
table_of (AtomValue a) = record { index = BoolSort; elem = BoolSort; pairs = [] }
table_of (MapValue m) = m

abbrev pub is_true_atom : Atom → Bool
is_true_atom (BoolAtom b) = b
is_true_atom (BvAtom v) = false

-- the value is true
abbrev pub is_on : Value → Bool
is_on v = is_true_atom (atom_of v)

-- the values of a unary and a binary node, of an if, a select and a store, from those of their children
abbrev pub unary_value : UnOp → Value → Value
unary_value op v = AtomValue (apply1 op (atom_of v))

abbrev pub binary_value : BvOp → Value → Value → Value
binary_value op v w = AtomValue (apply op (atom_of v) (atom_of w))

abbrev pub pick : Value → Value → Value → Value
pick test one other = if is_on test then one else other

abbrev pub select_value : Value → Value → Value
select_value m i = AtomValue (select (table_of m) (atom_of i))

abbrev pub store_value : Value → Value → Value → Value
store_value m i v = MapValue (stored (table_of m) (atom_of i) (atom_of v))
