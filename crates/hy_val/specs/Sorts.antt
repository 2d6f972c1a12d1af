-- Which sort an atom has, the zero of a sort, and the order of the atoms of a sort.
use Rattle.std.specs.Prelude.{ℕ, ◌^◌, Bool, true, false, ◌&&◌, nat_eq, nat_lt, nat_le}
use Rattle.hy_val.specs.declared.sort.Scalar.{Scalar}
use Rattle.hy_val.specs.declared.sort.ScalarKind.TheVariants.{Bool as BoolSort, Bv as BvSort}
use Rattle.hy_val.specs.declared.atom.Atom.{Atom}
use Rattle.hy_val.specs.declared.atom.AtomKind.TheVariants.{Bool as BoolAtom, Bv as BvAtom}

-- the sort that an atom has
abbrev pub scalar_of : Atom → Scalar
scalar_of (BoolAtom b) = BoolSort
scalar_of (BvAtom v) = BvSort v.width

-- bool, or the bit vectors of 1 to 64 bits
abbrev pub is_scalar : Scalar → Bool
is_scalar BoolSort = true
is_scalar (BvSort w) = nat_lt 0 w && nat_le w 64

abbrev pub same_scalar : Scalar → Scalar → Bool
same_scalar BoolSort BoolSort = true
same_scalar BoolSort (BvSort w) = false
same_scalar (BvSort v) BoolSort = false
same_scalar (BvSort v) (BvSort w) = nat_eq v w

-- a value of the sort: a truth value, or a number below 2^w
abbrev pub has_scalar : Atom → Scalar → Bool
has_scalar (BoolAtom b) BoolSort = true
has_scalar (BoolAtom b) (BvSort w) = false
has_scalar (BvAtom v) BoolSort = false
has_scalar (BvAtom v) (BvSort w) = nat_eq v.width w && is_scalar (BvSort w) && nat_lt v.bits (2 ^ w)

-- false, or the bits 0
abbrev pub zero_of_scalar : Scalar → Atom
zero_of_scalar BoolSort = BoolAtom false
zero_of_scalar (BvSort w) = BvAtom (record { width = w; bits = 0 })

-- the place of an atom among those of its sort: false before true, bits by size
abbrev pub rank : Atom → ℕ
rank (BoolAtom false) = 0
rank (BoolAtom true) = 1
rank (BvAtom v) = v.bits

abbrev pub is_zero : Atom → Bool
is_zero a = nat_eq (rank a) 0
