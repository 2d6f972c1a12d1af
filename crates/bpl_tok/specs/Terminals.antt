-- The terminal symbols of the grammar.
use Rattle.std.specs.Prelude.{Some, None}
use Rattle.bpl_tok.specs.declared.token.Terminal.{Terminal}
use Rattle.bpl_tok.specs.declared.token.Terminal.TheVariants as terminals
use Rattle.bpl_tok.specs.declared.token.TokKind.{TokKind}
use Rattle.bpl_tok.specs.declared.token.TokKind.TheVariants.{Ident, Keyword, Width, Number, BvLit, Str, Sign}

-- the terminal symbol that a token of this kind is
abbrev pub terminal_of : TokKind → Terminal
terminal_of Ident = terminals.Ident
terminal_of (Keyword word) = word
terminal_of (Width (Some width)) = terminals.Width
terminal_of (Width None) = terminals.WideWidth
terminal_of (Number value) = terminals.Number
terminal_of (BvLit width bits) = terminals.Literal
terminal_of Str = terminals.Str
terminal_of (Sign sign) = sign
