-- The tokens of a shown text, and their bytes.
use Rattle.std.specs.Prelude.{ℕ, Bool, true, false, List, [], ◌∷◌, ◌++◌, flat_map}
use Rattle.std.specs.Fmt.{decimal}

-- a token, and whether the line ends after it
pub record Token : Type 0 where
  pub text : List ℕ
  pub ends_line : Bool

abbrev pub mark : Bool → List ℕ → List Token
mark ends_line text = record { text = text; ends_line = ends_line } ∷ []

-- a token within a line
abbrev pub word : List ℕ → List Token
word = mark false

-- the last token of a line
abbrev pub last : List ℕ → List Token
last = mark true

-- a number, without leading zeros
abbrev pub number : ℕ → List Token
number n = word (decimal n)

-- a line feed where the line ends, else a space
abbrev pub gap_after : Bool → ℕ
gap_after true = 10
gap_after false = 32

-- A token, and what parts it from the next one. Each token that ends no line has another one of its line after it.
abbrev pub spelt : Token → List ℕ
spelt t = t.text ++ gap_after t.ends_line ∷ []

unfoldable pub text_of : List Token → List ℕ
text_of tokens = flat_map spelt tokens

-- a text, and these tokens after it
unfoldable pub written : List ℕ → List Token → List ℕ
written out tokens = out ++ text_of tokens
