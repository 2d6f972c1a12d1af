-- The tokens of names, attributes and sorts.
use Rattle.std.specs.Prelude.{List, ◌++◌, flat_map, codes}
use Rattle.std.specs.List.{join_by}
use Rattle.bpl_ast.specs.declared.name.Attribute.{Attribute}
use Rattle.bpl_ast.specs.declared.name.Lexeme.{Lexeme}
use Rattle.bpl_ast.specs.declared.name.Name.{Name}
use Rattle.bpl_ast.specs.declared.sort.Sort.{Sort}
use Rattle.bpl_ast.specs.declared.sort.Sort.TheFolds.{fold-Sort}
use Rattle.bpl_ast.specs.declared.sort.Sort.TheOpen.{Sort-F}
use Rattle.bpl_show.specs.Tokens.{Token, word}

abbrev pub name : Name → List Token
name n = word n.text

-- any number of things, with commas between them
abbrev pub listed : {X : Type 0} → (X → List Token) → List X → List Token
listed shown xs = join_by shown (word (codes ",")) xs

abbrev pub names : List Name → List Token
names ns = listed name ns

-- a token of an attribute, as it is spelt in the source
abbrev pub lexeme : Lexeme → List Token
lexeme l = word l.text

abbrev pub attribute : Attribute → List Token
attribute a = word (codes "{") ++ word (codes ":") ++ name a.name ++ flat_map lexeme a.tokens ++ word (codes "}")

abbrev pub attributes : List Attribute → List Token
attributes xs = flat_map attribute xs

-- a word `bvN` stands as in the source, with its zeros
abbrev pub sort_node : Sort-F (List Token) → List Token
sort_node (Sort-F.Boolean at) = word (codes "bool")
sort_node (Sort-F.Bits at width text) = word text
sort_node (Sort-F.Named n) = name n
sort_node (Sort-F.Map at index elem) = word (codes "[") ++ index ++ word (codes "]") ++ elem

unfoldable pub sort : Sort → List Token
sort = fold-Sort (List Token) sort_node
