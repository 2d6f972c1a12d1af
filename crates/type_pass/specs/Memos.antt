-- What the nodes of a graph stand for, where it is known step by step: a step finds the value of a node from the values of those to which its
-- edges lead.
use Rattle.std.specs.Prelude.{◌≡◌, ℕ, Bool, false, List, [], ◌∷◌, map, filter_map, length, position, Option, None, Some}
use Rattle.std.specs.List.{slice_index_or}
use Rattle.std.specs.Str.{bytes_eq}
use Rattle.bpl_ast.specs.declared.decl.Synonym.{Synonym}
use Rattle.bpl_ast.specs.declared.sort.Sort.{Sort}
use Rattle.bpl_ast.specs.declared.sort.Sort.TheOpen.{Sort-F}
use Rattle.bpl_ast.specs.declared.sort.Sort.TheFolds.{fold-Sort}
use Rattle.hy_val.specs.declared.sort.Sort.{Sort as Resolved}
use Rattle.type_pass.specs.Graphs.{Graph}
use Rattle.type_pass.specs.Sorts.{type_number, named_sort, names_map}

-- the value of a node that may be there
abbrev pub valued : {V : Type 0} → V → (ℕ → V) → Option ℕ → V
valued none value None = none
valued none value (Some i) = value i

abbrev pub listed_value : {V : Type 0} → V → List V → ℕ → V
listed_value none memo i = slice_index_or memo i none

-- the value that a list has for a node that may be there
abbrev pub noted : {V : Type 0} → V → List V → Option ℕ → V
noted none memo number = valued none (listed_value none memo) number

-- a value of what is there
abbrev pub from_node : {V A : Type 0} → V → (A → V) → Option A → V
from_node none f None = none
from_node none f (Some a) = f a

-- ---- types

-- the name that a sort is
abbrev pub head_node : Sort-F (List (List ℕ)) → List (List ℕ)
head_node (Sort-F.Boolean at) = []
head_node (Sort-F.Bits at width text) = []
head_node (Sort-F.Named name) = name.text ∷ []
head_node (Sort-F.Map at index elem) = []

unfoldable pub heads : Sort → List (List ℕ)
heads = fold-Sort (List (List ℕ)) head_node

-- from each type an edge leads to the type that it is another name of
abbrev pub head_graph : List Synonym → Graph
head_graph types = map (λ s. filter_map (type_number types) (heads s.sort)) types

-- the place of a name among names
abbrev pub number_among : List (List ℕ) → List ℕ → Option ℕ
number_among names text = position (bytes_eq text) names

-- what is noted of the types: which stand for maps, and what they stand for
pub record AreTypes (types : List Synonym) (names : List (List ℕ)) (maps : List Bool) (sorts : List (Option Resolved)) : Type 0 where
  pub numbered : names ≡ map (λ s. s.name.text) types
  pub are_maps : (text : List ℕ) → names_map (length types) types text ≡ noted false maps (type_number types text)
  pub stand_for : (text : List ℕ) → named_sort (length types) types text ≡ noted None sorts (type_number types text)
