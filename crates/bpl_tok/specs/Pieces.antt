-- What stands at the front of a text: white space or a comment, a token, or a fault.
use Rattle.std.specs.Prelude.{ℕ, zero, suc, ◌+◌, ◌^◌, ◌≤◌, ◌<◌, Bool, false, not, ◌&&◌, ◌==◌, nat_le, nat_lt, nat_eq, List, [], ◌∷◌, length, take, drop, Option, Some, None, option_map, IfSome, slice_index, if◌then◌else◌, codes}
use Rattle.std.specs.Char.{is_ascii_digit}
use Rattle.std.specs.List.{list_all, prefix_len, starts_with, take_while}
use Rattle.std.specs.Str.Parse.{digits_value}
use Rattle.bpl_tok.specs.declared.piece.Piece.{Piece}
use Rattle.bpl_tok.specs.declared.piece.Piece.TheVariants.{Gap, Whole, Fault}
use Rattle.bpl_tok.specs.declared.token.LexKind.TheVariants.{BadByte, OpenComment, OpenString, LiteralTooWide}
use Rattle.bpl_tok.specs.declared.token.Terminal.{Terminal}
use Rattle.bpl_tok.specs.declared.token.TokKind.{TokKind}
use Rattle.bpl_tok.specs.declared.token.TokKind.TheVariants.{Ident, Keyword, Width, Number, BvLit, Str, Sign}
use Rattle.bpl_tok.specs.Bytes.{begins_ident, in_ident, is_in_line, is_white}
use Rattle.bpl_tok.specs.Spellings.{keywords, sign_of, signs, spelt}

-- Comments.

-- `*/` and `/*`
abbrev pub closes : ℕ → ℕ → Bool
closes b c = b == 42 && c == 47

abbrev pub opens : ℕ → ℕ → Bool
opens b c = b == 47 && c == 42

-- a `*/` ends the innermost of depth and one more comments: the outermost, or else the others go on
abbrev pub closed : ℕ → (ℕ → Option ℕ) → Option ℕ
closed zero more = Some 2
closed (suc depth) more = more depth

-- How many bytes are left of the outermost of depth and one more open comments, with its `*/`.
unfoldable pub comment_len : ℕ → List ℕ → Option ℕ
comment_len depth [] = None
comment_len depth (b ∷ []) = None
comment_len depth (b ∷ c ∷ bs) =
    if closes b c then closed depth (λ outer. option_map (λ n. n + 2) (comment_len outer bs))
    else if opens b c then option_map (λ n. n + 2) (comment_len (suc depth) bs)
    else option_map (λ n. n + 1) (comment_len depth (c ∷ bs))

abbrev pub comment_piece : Option ℕ → Piece
comment_piece (Some n) = Gap (n + 2)
comment_piece None = Fault OpenComment

-- Strings.

-- How many bytes are left of an open string, with its last quote; the flag says whether the byte before is a backslash.
unfoldable pub string_len : Bool → List ℕ → Option ℕ
string_len escaped [] = None
string_len escaped (b ∷ bs) =
    if b == 10 then None
    else if b == 34 && not escaped then Some 1
    else option_map (λ n. n + 1) (string_len (b == 92) bs)

abbrev pub string_piece : Option ℕ → Piece
string_piece (Some n) = Whole Str (n + 1)
string_piece None = Fault OpenString

-- Words.

-- the width, where a bit vector may have it
abbrev pub width_in_range : ℕ → Option ℕ
width_in_range n = if nat_le 1 n && nat_le n 64 then Some n else None

-- the value, where it is below 2 to the 128
abbrev pub in_128_bits : ℕ → Option ℕ
in_128_bits n = if nat_lt n (2 ^ 128) then Some n else None

-- the width that digits write
abbrev pub width_of : List ℕ → Option ℕ
width_of digits = width_in_range (digits_value 10 digits)

-- `bv` and one digit or more
abbrev pub is_width_word : List ℕ → Bool
is_width_word word = starts_with nat_eq word (codes "bv") && nat_lt 2 (length word) && list_all is_ascii_digit (drop 2 word)

abbrev pub keyword_or_ident : Option Terminal → TokKind
keyword_or_ident (Some word) = Keyword word
keyword_or_ident None = Ident

-- what a whole word is
abbrev pub word_kind : List ℕ → TokKind
word_kind word = if is_width_word word then Width (width_of (drop 2 word)) else keyword_or_ident (spelt keywords word)

abbrev pub word_piece : List ℕ → Piece
word_piece bs = Whole (word_kind (take_while in_ident bs)) (prefix_len in_ident bs)

-- Numbers and literals.

-- what stands after digits makes a literal of them: `bv` and a digit
abbrev pub makes_literal : List ℕ → Bool
makes_literal after = starts_with nat_eq after (codes "bv") && is_ascii_digit (slice_index after 2)

abbrev pub number_piece : Option ℕ → ℕ → Piece
number_piece (Some value) len = Whole (Number value) len
number_piece None len = Fault LiteralTooWide

-- a width that a bit vector may have, or none
abbrev pub IsWidth : Option ℕ → Type 0
IsWidth width = IfSome width (λ n. n ≤ 64)

-- the bits, where the width holds them
abbrev pub bits_in_width : ℕ → ℕ → Option ℕ
bits_in_width bits width = if nat_lt bits (2 ^ width) then Some bits else None

abbrev pub sized_piece : ℕ → Option ℕ → ℕ → Piece
sized_piece width (Some bits) len = Whole (BvLit width bits) len
sized_piece width None len = Fault LiteralTooWide

abbrev pub literal_piece : ℕ → Option ℕ → ℕ → Piece
literal_piece bits (Some width) len = sized_piece width (bits_in_width bits width) len
literal_piece bits None len = Fault LiteralTooWide

-- a literal of these bits, of n bytes, with the text that stands after its `bv`
abbrev pub literal_at : List ℕ → List ℕ → ℕ → Piece
literal_at bits after n = literal_piece (digits_value 10 bits) (width_of (take_while is_ascii_digit after)) (n + 2 + prefix_len is_ascii_digit after)

-- a number or a literal, where n digits stand in front
abbrev pub digits_piece : List ℕ → ℕ → Piece
digits_piece bs n =
    if makes_literal (drop n bs) then literal_at (take n bs) (drop 2 (drop n bs)) n
    else number_piece (in_128_bits (digits_value 10 (take n bs))) n

-- Signs.

abbrev pub sign_piece : Option (Terminal × ℕ) → Piece
sign_piece (Some found) = Whole (Sign found.0) found.1
sign_piece None = Fault BadByte

-- The piece at the front of a text that is not empty.
unfoldable pub piece_of : List ℕ → Piece
piece_of bs =
    if is_white (slice_index bs 0) then Gap (prefix_len is_white bs)
    else if starts_with nat_eq bs (codes "//") then Gap (prefix_len is_in_line bs)
    else if starts_with nat_eq bs (codes "/*") then comment_piece (comment_len 0 (drop 2 bs))
    else if begins_ident (slice_index bs 0) then word_piece bs
    else if is_ascii_digit (slice_index bs 0) then digits_piece bs (prefix_len is_ascii_digit bs)
    else if slice_index bs 0 == 34 then string_piece (string_len false (drop 1 bs))
    else sign_piece (sign_of signs bs)

-- the piece takes a byte at least, and no more than there are
abbrev pub IsWithin : ℕ → Piece → Type 0
IsWithin len (Gap n) = (0 < n) × (n ≤ len)
IsWithin len (Whole kind n) = (0 < n) × (n ≤ len)
IsWithin len (Fault kind) = Unit {0}
