-- What the pieces of a source are, in words of its text, and how they lie in it. These are laws above
-- the reading: they speak of a piece's text and of the rest that stands after it.
use Rattle.std.specs.Prelude.{◌≡◌, ◌≢◌, ◌⊎◌, ℕ, ◌+◌, ◌^◌, ◌<◌, ◌≤◌, Bool, true, false, not, ◌||◌, ◌==◌, nat_le, nat_eq, List, [], ◌∷◌, ◌++◌, length, take, drop, Some, None, slice_index, Result, Ok, Err, codes}
use Rattle.std.specs.Char.{is_ascii_digit}
use Rattle.std.specs.List.{list_all, starts_with, take_while}
use Rattle.std.specs.Str.Parse.{digits_value}
use Rattle.bpl_tok.specs.declared.token.LexFault.{LexFault}
use Rattle.bpl_tok.specs.declared.token.LexKind.{LexKind}
use Rattle.bpl_tok.specs.declared.token.LexKind.TheVariants.{BadByte, OpenComment, OpenString, LiteralTooWide}
use Rattle.bpl_tok.specs.declared.token.Terminal.{Terminal}
use Rattle.bpl_tok.specs.declared.token.Token.{Token}
use Rattle.bpl_tok.specs.declared.token.TokKind.{TokKind}
use Rattle.bpl_tok.specs.declared.token.TokKind.TheVariants.{Ident, Keyword, Width, Number, BvLit, Str, Sign}
use Rattle.bpl_tok.specs.Bytes.{begins_ident, in_ident, is_in_line, is_white}
use Rattle.bpl_tok.specs.Spellings.{Spelling, keywords, signs, spelt}
use Rattle.bpl_tok.specs.Pieces.{comment_len, is_width_word, makes_literal, string_len, width_of}
use Rattle.bpl_tok.specs.Lexed.{tokens_of}

-- the text does not go on with a byte of the class
abbrev pub Stops : (ℕ → Bool) → List ℕ → Type 0
Stops p [] = Unit {0}
Stops p (b ∷ bs) = p b ≡ false

-- one byte of the class at least, and as many as there are
pub record IsRun (p : ℕ → Bool) (text rest : List ℕ) : Type 0 where
  pub some : 0 < length text
  pub passes : list_all p text ≡ true
  pub stops : Stops p rest

-- White space; a comment to the end of its line; or a comment that nests, with its `*/`.
pub data IsGap (text rest : List ℕ) : Type 0 where
  white : IsRun is_white text rest → IsGap text rest
  line : starts_with nat_eq text (codes "//") ≡ true → IsRun is_in_line text rest → IsGap text rest
  nested : starts_with nat_eq text (codes "/*") ≡ true → comment_len 0 (drop 2 text) ≡ Some (length (drop 2 text)) → IsGap text rest

-- the longest run of bytes of identifiers, which begins as one does
pub record IsWord (text rest : List ℕ) : Type 0 where
  pub begins : begins_ident (slice_index text 0) ≡ true
  pub run : IsRun in_ident text rest

-- a number by its value: all of the digits, which `bv` and a digit don't follow
pub record IsNumber (value : ℕ) (text rest : List ℕ) : Type 0 where
  pub run : IsRun is_ascii_digit text rest
  pub alone : makes_literal rest ≡ false
  pub is_value : value ≡ digits_value 10 text
  pub fits : value < 2 ^ 128

-- digits, `bv`, and all of the digits that follow
pub record IsLiteral (width bits : ℕ) (text rest : List ℕ) : Type 0 where
  pub front : List ℕ
  pub back : List ℕ
  pub parts : text ≡ front ++ (codes "bv" ++ back)
  pub some : 0 < length front
  pub digits : list_all is_ascii_digit front ≡ true
  pub run : IsRun is_ascii_digit back rest
  pub is_bits : bits ≡ digits_value 10 front
  pub is_width : width ≡ digits_value 10 back
  pub least : 1 ≤ width
  pub most : width ≤ 64
  pub fits : bits < 2 ^ width

-- What stands in a string after a byte, up to its end: no line feed, and no quote but after a
-- backslash. The last byte is a quote that does not stand after one.
abbrev pub IsClosed : ℕ → List ℕ → Type 0
IsClosed before [] = ⊥
IsClosed before (b ∷ []) = (b ≡ 34) × (before ≢ 92)
IsClosed before (b ∷ c ∷ bs) = (b ≢ 10) × (b ≡ 34 → before ≡ 92) × IsClosed b (c ∷ bs)

abbrev pub IsString : List ℕ → Type 0
IsString [] = ⊥
IsString (b ∷ bs) = (b ≡ 34) × IsClosed b bs

-- the table has this text with this terminal
abbrev pub HasSpelling : List Spelling → List ℕ → Terminal → Type 0
HasSpelling [] text terminal = ⊥
HasSpelling (entry ∷ more) text terminal = ((entry.0 ≡ text) × (entry.1 ≡ terminal)) ⊎ HasSpelling more text terminal

-- no text of the table that stands at the front of bs is longer than n
abbrev pub is_longest : List Spelling → List ℕ → ℕ → Bool
is_longest table bs n = list_all (λ entry. not (starts_with nat_eq bs entry.0) || nat_le (length entry.0) n) table

pub record IsSign (sign : Terminal) (text rest : List ℕ) : Type 0 where
  pub spelling : HasSpelling signs text sign
  pub longest : is_longest signs (text ++ rest) (length text) ≡ true

-- The text is a token of this kind, where the rest stands after it: in each case the longest.
abbrev pub IsToken : TokKind → List ℕ → List ℕ → Type 0
IsToken Ident text rest = IsWord text rest × (is_width_word text ≡ false) × (spelt keywords text ≡ None)
IsToken (Keyword word) text rest = IsWord text rest × (is_width_word text ≡ false) × (spelt keywords text ≡ Some word)
IsToken (Width width) text rest = IsWord text rest × (is_width_word text ≡ true) × (width ≡ width_of (drop 2 text))
IsToken (Number value) text rest = IsNumber value text rest
IsToken (BvLit width bits) text rest = IsLiteral width bits text rest
IsToken Str text rest = IsString text
IsToken (Sign sign) text rest = IsSign sign text rest

-- Why digits and what stands after them are too wide: a number of 2 to the 128 or more; a literal
-- whose width is 0 or above 64; or one whose value is 2 to the width or more.
pub data IsWide (front after : List ℕ) : Type 0 where
  number : makes_literal after ≡ false → 2 ^ 128 ≤ digits_value 10 front → IsWide front after
  width : makes_literal after ≡ true → width_of (take_while is_ascii_digit (drop 2 after)) ≡ None → IsWide front after
  bits : makes_literal after ≡ true → 2 ^ digits_value 10 (take_while is_ascii_digit (drop 2 after)) ≤ digits_value 10 front → IsWide front after

-- all of the digits at the front, and what stands after them, are too wide
pub record IsTooWide (bs : List ℕ) : Type 0 where
  pub front : List ℕ
  pub after : List ℕ
  pub parts : bs ≡ front ++ after
  pub run : IsRun is_ascii_digit front after
  pub wide : IsWide front after

-- a byte with which no piece begins: also no comment, since `/` is a sign
pub record IsBadByte (bs : List ℕ) : Type 0 where
  pub some : 0 < length bs
  pub no_white : is_white (slice_index bs 0) ≡ false
  pub no_word : begins_ident (slice_index bs 0) ≡ false
  pub no_digit : is_ascii_digit (slice_index bs 0) ≡ false
  pub no_quote : (slice_index bs 0 == 34) ≡ false
  pub no_sign : list_all (λ entry. not (starts_with nat_eq bs entry.0)) signs ≡ true

-- Why no piece stands at the front.
abbrev pub IsFault : LexKind → List ℕ → Type 0
IsFault BadByte bs = IsBadByte bs
IsFault OpenComment bs = (starts_with nat_eq bs (codes "/*") ≡ true) × (comment_len 0 (drop 2 bs) ≡ None)
IsFault OpenString bs = (slice_index bs 0 ≡ 34) × (string_len false (drop 1 bs) ≡ None)
IsFault LiteralTooWide bs = IsTooWide bs

-- The text bs, which begins at an offset, is cut into white space, comments and the tokens, up to the rest.
pub data IsCut : ℕ → List ℕ → List Token → List ℕ → Type 0 where
  done : {at : ℕ} {bs : List ℕ} → IsCut at bs [] bs
  gap : {at : ℕ} {bs rest : List ℕ} {ts : List Token} (text after : List ℕ) → bs ≡ text ++ after → 0 < length text
      → IsGap text after → IsCut (at + length text) after ts rest → IsCut at bs ts rest
  token : {at : ℕ} {bs rest : List ℕ} {t : Token} {ts : List Token} (text after : List ℕ) → bs ≡ text ++ after → 0 < length text → t.at ≡ at → t.len ≡ length text
      → IsToken t.kind text after → IsCut (at + length text) after ts rest → IsCut at bs (t ∷ ts) rest

-- What reading a text that begins at an offset gives: a cut of all of it, or a cut up to the first fault.
abbrev pub IsReading : ℕ → List ℕ → Result (List Token) LexFault → Type 0
IsReading at bs (Ok ts) = IsCut at bs ts []
IsReading at bs (Err fault) = (ts : List Token) × (rest : List ℕ) × IsCut at bs ts rest × (fault.at + length rest ≡ at + length bs) × IsFault fault.kind rest

-- The law of reading, for every source.
abbrev pub ReadingCuts : Type 0
ReadingCuts = (source : List ℕ) → IsReading 0 source (tokens_of source)

-- the tokens lie one after the other between two offsets
abbrev pub LieBetween : ℕ → List Token → ℕ → Type 0
LieBetween low [] high = low ≤ high
LieBetween low (t ∷ ts) high = (low ≤ t.at) × (0 < t.len) × LieBetween (t.at + t.len) ts high

-- each token's slice of the source is its text, where the rest of the source stands after it
abbrev pub AreSlices : List ℕ → List Token → Type 0
AreSlices source [] = Unit {0}
AreSlices source (t ∷ ts) = IsToken t.kind (take t.len (drop t.at source)) (drop (t.at + t.len) source) × AreSlices source ts

-- The law of places: tokens ascend without overlap, lie in the source, and are its slices.
abbrev pub TokensLieInSource : Type 0
TokensLieInSource = (source : List ℕ) (ts : List Token) → tokens_of source ≡ Ok ts → LieBetween 0 ts (length source) × AreSlices source ts
