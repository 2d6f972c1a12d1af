-- Printing and reading: what is printed of a tree that was read reads again, as a tree alike.
use Rattle.std.specs.Prelude.{◌≡◌, ℕ, List, Ok}
use Rattle.bpl_ast.specs.Alike.{AreAlike}
use Rattle.bpl_ast.specs.declared.decl.Ast.{Ast}
use Rattle.bpl_parse.specs.Promises.{Reads}
use Rattle.bpl_show.specs.Shown.{shown_text}
use Rattle.bpl_tok.specs.declared.token.Token.{Token}
use Rattle.bpl_tok.specs.Lexed.{tokens_of}

-- the text is cut into tokens without fault, and these are a program with this tree, nested at most 200 deep
abbrev pub HasTree : List ℕ → Ast → Type 0
HasTree text tree = (tokens : List Token) × (tokens_of text ≡ Ok tokens) × Reads text tokens tree

-- the canonical text of each tree that a text has, has a tree alike
abbrev pub ShownReadsAlike : Type 0
ShownReadsAlike = (source : List ℕ) (tree : Ast) → HasTree source tree → (again : Ast) × HasTree (shown_text tree) again × AreAlike again tree
