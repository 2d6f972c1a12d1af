-- The tokens of a text, or its first fault.
use Rattle.std.specs.Prelude.{◌≡◌, ℕ, zero, suc, ◌+◌, List, [], ◌∷◌, length, drop, ◌==◌, if◌then◌else◌, Result, Ok, Err}
use Rattle.std.specs.Global.{Vec}
use Rattle.hy_text.specs.declared.refusal.Or.{Or}
use Rattle.hy_text.specs.declared.refusal.Or.TheVariants as ors
use Rattle.bpl_tok.specs.declared.token.Token.{Token}
use Rattle.bpl_tok.specs.declared.token.LexFault.{LexFault}
use Rattle.bpl_tok.specs.declared.piece.Piece.{Piece}
use Rattle.bpl_tok.specs.declared.piece.Piece.TheVariants.{Gap, Whole, Fault}
use Rattle.bpl_tok.specs.Pieces.{piece_of}

abbrev pub with_first : Token → Result (List Token) LexFault → Result (List Token) LexFault
with_first t (Ok ts) = Ok (t ∷ ts)
with_first t (Err f) = Err f

-- the piece that begins at an offset, and then the rest
abbrev pub with_piece : ℕ → Piece → (ℕ → Result (List Token) LexFault) → Result (List Token) LexFault
with_piece at (Gap n) more = more n
with_piece at (Whole kind n) more = with_first (record { kind = kind; at = at; len = n }) (more n)
with_piece at (Fault kind) more = Err (record { at = at; kind = kind })

-- The tokens of the text that begins at an offset. The first number bounds the pieces: each takes a
-- byte at least, so the count of bytes is enough.
unfoldable pub lexed : ℕ → ℕ → List ℕ → Result (List Token) LexFault
lexed zero at bs = Ok []
lexed (suc turns) at bs = if length bs == 0 then Ok [] else with_piece at (piece_of bs) (λ n. lexed turns (at + n) (drop n bs))

-- The tokens of a source.
abbrev pub tokens_of : List ℕ → Result (List Token) LexFault
tokens_of bs = lexed (length bs) 0 bs

-- what a call answers is this, unless memory ran out
abbrev pub Gives : Result (Vec Token) (Or LexFault) → Result (List Token) LexFault → Type 0
Gives (Ok ts) read = read ≡ Ok ts.items
Gives (Err (ors.Fault f)) read = read ≡ Err f
Gives (Err ors.NoMemory) read = Unit {0}
