-- Sorts: which are maps, which have a fault, and what they stand for.
use Rattle.std.specs.Prelude.{ℕ, zero, suc, Bool, true, false, not, List, [], ◌∷◌, ◌++◌, length, map, filter_map, find, position, Option, None, Some, is_some, unwrap_or, if◌then◌else◌}
use Rattle.std.specs.Option.{option_and_then}
use Rattle.std.specs.Str.{bytes_eq}
use Rattle.bpl_ast.specs.declared.decl.Synonym.{Synonym}
use Rattle.bpl_ast.specs.declared.sort.Sort.{Sort}
use Rattle.bpl_ast.specs.declared.sort.Sort.TheOpen.{Sort-F}
use Rattle.bpl_ast.specs.declared.sort.Sort.TheFolds.{fold-Sort}
use Rattle.bpl_ast.specs.declared.word.Word.TheVariants.{WideType, MapOfMap}
use Rattle.hy_val.specs.NodeSorts.{as_scalar}
use Rattle.hy_val.specs.Sorts.{is_scalar}
use Rattle.hy_val.specs.declared.sort.Scalar.{Scalar}
use Rattle.hy_val.specs.declared.sort.ScalarKind.TheVariants.{Bool as BoolSort, Bv as BvSort}
use Rattle.hy_val.specs.declared.sort.Sort.{Sort as Resolved}
use Rattle.hy_val.specs.declared.sort.SortKind.TheVariants.{Scalar as ScalarSort, Map as MapSort}
use Rattle.type_pass.specs.declared.fault.TypeFault.{TypeFault}
use Rattle.type_pass.specs.declared.fault.TypeKind.TheVariants.{Unknown, LeftOut}
use Rattle.type_pass.specs.Faults.{told}
use Rattle.type_pass.specs.Graphs.{Graph}

-- the number of the type of this name
abbrev pub type_number : List Synonym → List ℕ → Option ℕ
type_number types text = position (λ s. bytes_eq text s.name.text) types

abbrev pub type_named : List Synonym → List ℕ → Option Synonym
type_named types text = find (λ s. bytes_eq text s.name.text) types

-- ---- faults

-- what is told of a sort: where it begins, whether it is a map, and its faults
pub record SortPart : Type 0 where
  pub at : ℕ
  pub is_map : Bool
  pub faults : List TypeFault

-- a map whose index or element this is
abbrev pub inside_map : SortPart → List TypeFault
inside_map p = told p.is_map p.at (LeftOut MapOfMap) ++ p.faults

-- One node, where it is known which names are declared and which stand for maps. No text has a width that is not 1 to 64.
abbrev pub sort_node : (List ℕ → Bool) → (List ℕ → Bool) → Sort-F SortPart → SortPart
sort_node is_type is_map (Sort-F.Boolean at) = record { at = at; is_map = false; faults = [] }
sort_node is_type is_map (Sort-F.Bits at width text) = record { at = at; is_map = false; faults = told (not (is_scalar (BvSort width))) at (LeftOut WideType) }
sort_node is_type is_map (Sort-F.Named name) = record { at = name.at; is_map = is_map name.text; faults = told (not (is_type name.text)) name.at Unknown }
sort_node is_type is_map (Sort-F.Map at index elem) = record { at = at; is_map = true; faults = inside_map index ++ inside_map elem }

unfoldable pub sort_part : (List ℕ → Bool) → (List ℕ → Bool) → Sort → SortPart
sort_part is_type is_map = fold-Sort SortPart (sort_node is_type is_map)

-- a sort that is written as a map, or a name that stands for a map
abbrev pub written_as_map : (List ℕ → Bool) → Sort → Bool
written_as_map is_map sort = (sort_part (λ n. true) is_map sort).is_map

abbrev pub is_map_if : (Synonym → Bool) → Option Synonym → Bool
is_map_if is_map None = false
is_map_if is_map (Some s) = is_map s

-- The name stands for a map: its sort is written as one, or is a name that stands for a map. A chain of names that ends passes each type once
-- at most, so it is no longer than there are types.
abbrev pub names_map : ℕ → List Synonym → List ℕ → Bool
names_map zero types text = false
names_map (suc n) types text = is_map_if (λ s. written_as_map (names_map n types) s.sort) (type_named types text)

unfoldable pub part_of : List Synonym → Sort → SortPart
part_of types = sort_part (λ n. is_some (type_number types n)) (names_map (length types) types)

abbrev pub is_map_sort : List Synonym → Sort → Bool
is_map_sort types sort = (part_of types sort).is_map

abbrev pub sort_faults : List Synonym → Sort → List TypeFault
sort_faults types sort = (part_of types sort).faults

-- ---- circles

-- the names in a sort
abbrev pub mention_node : Sort-F (List (List ℕ)) → List (List ℕ)
mention_node (Sort-F.Boolean at) = []
mention_node (Sort-F.Bits at width text) = []
mention_node (Sort-F.Named name) = name.text ∷ []
mention_node (Sort-F.Map at index elem) = index ++ elem

unfoldable pub mentions : Sort → List (List ℕ)
mentions = fold-Sort (List (List ℕ)) mention_node

-- from each type edges lead to the types that its sort names
abbrev pub type_graph : List Synonym → Graph
type_graph types = map (λ s. filter_map (type_number types) (mentions s.sort)) types

-- ---- what sorts stand for

abbrev pub bits_sort : ℕ → Option Resolved
bits_sort width = if is_scalar (BvSort width) then Some (ScalarSort (BvSort width)) else None

abbrev pub map_sort : Option Scalar → Option Scalar → Option Resolved
map_sort None elem = None
map_sort (Some i) None = None
map_sort (Some i) (Some e) = Some (MapSort i e)

-- one node, where it is known what names stand for
abbrev pub resolved_node : (List ℕ → Option Resolved) → Sort-F (Option Resolved) → Option Resolved
resolved_node name_sort (Sort-F.Boolean at) = Some (ScalarSort BoolSort)
resolved_node name_sort (Sort-F.Bits at width text) = bits_sort width
resolved_node name_sort (Sort-F.Named name) = name_sort name.text
resolved_node name_sort (Sort-F.Map at index elem) = map_sort (as_scalar index) (as_scalar elem)

unfoldable pub resolved_by : (List ℕ → Option Resolved) → Sort → Option Resolved
resolved_by name_sort = fold-Sort (Option Resolved) (resolved_node name_sort)

-- What a name stands for. Where no type lies on a circle, sorts pass each type once at most on the way down.
abbrev pub named_sort : ℕ → List Synonym → List ℕ → Option Resolved
named_sort zero types text = None
named_sort (suc n) types text = option_and_then (λ s. resolved_by (named_sort n types) s.sort) (type_named types text)

abbrev pub resolved : List Synonym → Sort → Option Resolved
resolved types = resolved_by (named_sort (length types) types)

-- the sort that a sort of the text stands for; where it has a fault, bool
abbrev pub sort_of : List Synonym → Sort → Resolved
sort_of types sort = unwrap_or (resolved types sort) (ScalarSort BoolSort)
