-- What is told of a sort, what it names and what it stands for, by its outermost node.
use Rattle.std.proofs.Common.{◌≡◌, ℕ, Bool, List, length, Option, is_some, rules}
use Rattle.bpl_ast.specs.declared.decl.Synonym.{Synonym}
use Rattle.bpl_ast.specs.declared.name.Name.{Name}
use Rattle.bpl_ast.specs.declared.sort.Sort.{Sort}
use Rattle.bpl_ast.specs.declared.sort.Sort.TheFolds.{the_lemmas}
use Rattle.bpl_ast.specs.declared.sort.Sort.TheOpen.{Sort-F}
use Rattle.bpl_ast.specs.declared.sort.Sort.TheVariants as sorts
use Rattle.hy_val.specs.declared.sort.Sort.{Sort as Resolved}
use Rattle.type_pass.specs.Memos.{heads, head_node}
use Rattle.type_pass.specs.Sorts.{sort_part, sort_node, mentions, mention_node, resolved_by, resolved_node, part_of, type_number, names_map}

pub part-boolean : (is_type is_map : List ℕ → Bool) (at : ℕ) → sort_part is_type is_map (sorts.Boolean at) ≡ sort_node is_type is_map (Sort-F.Boolean at)
unfolding sort_part
part-boolean is_type is_map at = search (rules, the_lemmas)

pub part-bits : (is_type is_map : List ℕ → Bool) (at : ℕ) (width : ℕ) (text : List ℕ) → sort_part is_type is_map (sorts.Bits at width text) ≡ sort_node is_type is_map (Sort-F.Bits at width text)
unfolding sort_part
part-bits is_type is_map at width text = search (rules, the_lemmas)

pub part-named : (is_type is_map : List ℕ → Bool) (n : Name) → sort_part is_type is_map (sorts.Named n) ≡ sort_node is_type is_map (Sort-F.Named n)
unfolding sort_part
part-named is_type is_map n = search (rules, the_lemmas)

pub part-map : (is_type is_map : List ℕ → Bool) (at : ℕ) (x : Sort) (y : Sort) → sort_part is_type is_map (sorts.Map at x y) ≡ sort_node is_type is_map (Sort-F.Map at (sort_part is_type is_map x) (sort_part is_type is_map y))
unfolding sort_part
part-map is_type is_map at x y = search (rules, the_lemmas)

pub mentions-boolean : (at : ℕ) → mentions (sorts.Boolean at) ≡ mention_node (Sort-F.Boolean at)
unfolding mentions
mentions-boolean at = search (rules, the_lemmas)

pub mentions-bits : (at : ℕ) (width : ℕ) (text : List ℕ) → mentions (sorts.Bits at width text) ≡ mention_node (Sort-F.Bits at width text)
unfolding mentions
mentions-bits at width text = search (rules, the_lemmas)

pub mentions-named : (n : Name) → mentions (sorts.Named n) ≡ mention_node (Sort-F.Named n)
unfolding mentions
mentions-named n = search (rules, the_lemmas)

pub mentions-map : (at : ℕ) (x : Sort) (y : Sort) → mentions (sorts.Map at x y) ≡ mention_node (Sort-F.Map at (mentions x) (mentions y))
unfolding mentions
mentions-map at x y = search (rules, the_lemmas)

pub resolved-boolean : (name_sort : List ℕ → Option Resolved) (at : ℕ) → resolved_by name_sort (sorts.Boolean at) ≡ resolved_node name_sort (Sort-F.Boolean at)
unfolding resolved_by
resolved-boolean name_sort at = search (rules, the_lemmas)

pub resolved-bits : (name_sort : List ℕ → Option Resolved) (at : ℕ) (width : ℕ) (text : List ℕ) → resolved_by name_sort (sorts.Bits at width text) ≡ resolved_node name_sort (Sort-F.Bits at width text)
unfolding resolved_by
resolved-bits name_sort at width text = search (rules, the_lemmas)

pub resolved-named : (name_sort : List ℕ → Option Resolved) (n : Name) → resolved_by name_sort (sorts.Named n) ≡ resolved_node name_sort (Sort-F.Named n)
unfolding resolved_by
resolved-named name_sort n = search (rules, the_lemmas)

pub resolved-map : (name_sort : List ℕ → Option Resolved) (at : ℕ) (x : Sort) (y : Sort) → resolved_by name_sort (sorts.Map at x y) ≡ resolved_node name_sort (Sort-F.Map at (resolved_by name_sort x) (resolved_by name_sort y))
unfolding resolved_by
resolved-map name_sort at x y = search (rules, the_lemmas)

-- the same, where the types of a program are known
abbrev known : List Synonym → List ℕ → Bool
known types n = is_some (type_number types n)

pub of-boolean : (types : List Synonym) (at : ℕ) → part_of types (sorts.Boolean at) ≡ sort_node (known types) (names_map (length types) types) (Sort-F.Boolean at)
unfolding part_of
of-boolean types at = part-boolean _ _ at

pub of-bits : (types : List Synonym) (at width : ℕ) (text : List ℕ) → part_of types (sorts.Bits at width text) ≡ sort_node (known types) (names_map (length types) types) (Sort-F.Bits at width text)
unfolding part_of
of-bits types at width text = part-bits _ _ at width text

pub of-named : (types : List Synonym) (n : Name) → part_of types (sorts.Named n) ≡ sort_node (known types) (names_map (length types) types) (Sort-F.Named n)
unfolding part_of
of-named types n = part-named _ _ n

pub of-map : (types : List Synonym) (at : ℕ) (x y : Sort) → part_of types (sorts.Map at x y) ≡ sort_node (known types) (names_map (length types) types) (Sort-F.Map at (part_of types x) (part_of types y))
unfolding part_of
of-map types at x y = part-map _ _ at x y

-- the name that a sort is
pub heads-boolean : (at : ℕ) → heads (sorts.Boolean at) ≡ head_node (Sort-F.Boolean at)
unfolding heads
heads-boolean at = search (rules, the_lemmas)

pub heads-bits : (at width : ℕ) (text : List ℕ) → heads (sorts.Bits at width text) ≡ head_node (Sort-F.Bits at width text)
unfolding heads
heads-bits at width text = search (rules, the_lemmas)

pub heads-named : (n : Name) → heads (sorts.Named n) ≡ head_node (Sort-F.Named n)
unfolding heads
heads-named n = search (rules, the_lemmas)

pub heads-map : (at : ℕ) (x y : Sort) → heads (sorts.Map at x y) ≡ head_node (Sort-F.Map at (heads x) (heads y))
unfolding heads
heads-map at x y = search (rules, the_lemmas)
