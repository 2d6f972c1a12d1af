-- id      an identifier that is no keyword
-- ids     = id { "," id }
-- attr    = "{" ":" id { token other than "{" and "}" } "}"
use Rattle.std.specs.Prelude.{ℕ, true, false, List}
use Rattle.bpl_ast.specs.declared.name.Attribute.{Attribute}
use Rattle.bpl_ast.specs.declared.name.Lexeme.{Lexeme}
use Rattle.bpl_ast.specs.declared.name.Name.{Name}
use Rattle.bpl_tok.specs.declared.token.Terminal.TheVariants as k
use Rattle.bpl_tok.specs.declared.token.Token.{Token}
use Rattle.bpl_parse.specs.declared.place.Place.{Place}
use Rattle.bpl_parse.specs.declared.place.Place.TheVariants as at
use Rattle.bpl_rules.specs.Rules.{one, seq, made, many, sealed, never, behind, ended, separated}
use Rattle.bpl_parse.specs.Tests.{is, is_no_brace}
use Rattle.bpl_parse.specs.Reader.{Reader, text_of, name_of}

abbrev pub name : List ℕ → Place → Reader Name
name s place = made (name_of s) (one place (is k.Ident))

unfoldable pub names : List ℕ → Reader (List Name)
names s = sealed (is k.Ident) false (is k.Comma) (separated at.Other (is k.Comma) (name s at.Other))

abbrev pub lexeme_of : List ℕ → Token → Lexeme
lexeme_of s t = record { at = t.at; text = text_of s t }

abbrev pub lexeme : List ℕ → Reader Lexeme
lexeme s = made (lexeme_of s) (one at.Other is_no_brace)

abbrev pub attribute_of : Token × (Name × List Lexeme) → Attribute
attribute_of x = record { at = x.0.at; name = x.1.0; tokens = x.1.1 }

unfoldable pub attribute : List ℕ → Reader Attribute
attribute s = sealed (is k.LeftBrace) false never (made attribute_of (seq (one at.Other (is k.LeftBrace)) (behind at.Other (is k.Colon) (seq (name s at.Other) (ended (many (lexeme s)) at.Other (is k.RightBrace))))))

unfoldable pub attributes : List ℕ → Reader (List Attribute)
attributes s = sealed (is k.LeftBrace) true (is k.LeftBrace) (many (attribute s))
