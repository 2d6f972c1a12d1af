-- The canonical text of a program.
use Rattle.std.specs.Prelude.{ℕ, List, flat_map}
use Rattle.bpl_ast.specs.declared.decl.Ast.{Ast}
use Rattle.bpl_show.specs.Decls.{decl}
use Rattle.bpl_show.specs.Tokens.{Token, text_of}

unfoldable pub shown : Ast → List Token
shown ast = flat_map decl ast.decls

-- One space stands between two tokens of a line, and each line ends with a line feed.
unfoldable pub shown_text : Ast → List ℕ
shown_text ast = text_of (shown ast)
