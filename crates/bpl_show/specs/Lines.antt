-- A text in lines: each line is one token or more with one space between them, and a line feed at its end.
use Rattle.std.specs.Prelude.{◌≡◌, ℕ, List, [], ◌∷◌, ◌++◌, map, flat_map}
use Rattle.std.specs.List.{join_by}
use Rattle.bpl_ast.specs.declared.decl.Ast.{Ast}
use Rattle.bpl_show.specs.Shown.{shown, shown_text}
use Rattle.bpl_show.specs.Tokens.{Token}

-- the tokens of a line
pub record Line : Type 0 where
  pub first : List ℕ
  pub others : List (List ℕ)

abbrev pub tokens_of : Line → List (List ℕ)
tokens_of l = l.first ∷ l.others

abbrev pub line_text : Line → List ℕ
line_text l = join_by (λ token. token) (32 ∷ []) (tokens_of l) ++ 10 ∷ []

-- the bytes are these tokens in lines
pub record AreLines (tokens : List Token) (bytes : List ℕ) : Type 0 where
  pub lines : List Line
  pub all_tokens : flat_map tokens_of lines ≡ map (λ t. t.text) tokens
  pub all_bytes : bytes ≡ flat_map line_text lines

abbrev pub ShownInLines : Type 0
ShownInLines = (ast : Ast) → AreLines (shown ast) (shown_text ast)
