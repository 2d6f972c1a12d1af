-- How values are printed.
use Rattle.std.specs.Prelude.{ℕ, true, false, List, [], ◌∷◌, ◌++◌, codes, decimal}
use Rattle.hy_val.specs.Table.{Table}
use Rattle.hy_val.specs.declared.atom.Atom.{Atom}
use Rattle.hy_val.specs.declared.atom.AtomKind.TheVariants.{Bool as BoolAtom, Bv as BvAtom}
use Rattle.hy_val.specs.declared.sort.Scalar.{Scalar}
use Rattle.hy_val.specs.declared.sort.ScalarKind.TheVariants.{Bool as BoolSort, Bv as BvSort}
use Rattle.hy_val.specs.declared.value.Value.{Value}
use Rattle.hy_val.specs.declared.value.Value.TheVariants.{Atom as AtomValue, Map as MapValue}

-- a sort without maps
abbrev pub scalar_text : Scalar → List ℕ
scalar_text BoolSort = codes "bool"
scalar_text (BvSort width) = codes "bv" ++ decimal width

-- a truth value; or bits as a number, `bv` and their width
abbrev pub atom_text : Atom → List ℕ
atom_text (BoolAtom true) = codes "true"
atom_text (BoolAtom false) = codes "false"
atom_text (BvAtom v) = decimal v.bits ++ codes "bv" ++ decimal v.width

-- an index and the entry there
abbrev pub pair_text : Atom × Atom → List ℕ
pair_text pair = atom_text pair.0 ++ codes ":" ++ atom_text pair.1

-- pairs, each behind a comma
abbrev pub more_pairs_text : List (Atom × Atom) → List ℕ
more_pairs_text [] = []
more_pairs_text (pair ∷ pairs) = codes "," ++ pair_text pair ++ more_pairs_text pairs

-- pairs with commas between them
abbrev pub pairs_text : List (Atom × Atom) → List ℕ
pairs_text [] = []
pairs_text (pair ∷ pairs) = pair_text pair ++ more_pairs_text pairs

-- a map: its two sorts, and the entries that are not zero
abbrev pub map_text : Table → List ℕ
map_text m = codes "[" ++ scalar_text m.index ++ codes "]" ++ scalar_text m.elem ++ codes "{" ++ pairs_text m.pairs ++ codes "}"

abbrev pub value_text : Value → List ℕ
value_text (AtomValue a) = atom_text a
value_text (MapValue m) = map_text m
