-- The keywords and the signs, each with the terminal that it spells.
use Rattle.std.specs.Prelude.{ℕ, List, [], ◌∷◌, ◌++◌, length, Option, Some, None, nat_eq, if◌then◌else◌, codes}
use Rattle.std.specs.List.{starts_with}
use Rattle.std.specs.Str.{bytes_eq}
use Rattle.bpl_tok.specs.declared.token.Terminal.{Terminal}
use Rattle.bpl_tok.specs.declared.token.Terminal.TheVariants as terminals

-- a text, and the terminal that it spells
abbrev pub Spelling : Type 0
Spelling = List ℕ × Terminal

-- the keywords of two bytes, of three, and so on
abbrev pub of_two : List Spelling
of_two =
    (codes "if", terminals.If) ∷
    []

abbrev pub of_three : List Spelling
of_three =
    (codes "var", terminals.Var) ∷
    (codes "int", terminals.Int) ∷
    (codes "old", terminals.Old) ∷
    (codes "par", terminals.Par) ∷
    (codes "div", terminals.Div) ∷
    (codes "mod", terminals.Mod) ∷
    []

abbrev pub of_four : List Spelling
of_four =
    (codes "type", terminals.TypeWord) ∷
    (codes "free", terminals.Free) ∷
    (codes "call", terminals.Call) ∷
    (codes "goto", terminals.Goto) ∷
    (codes "then", terminals.Then) ∷
    (codes "else", terminals.Else) ∷
    (codes "bool", terminals.BoolWord) ∷
    (codes "real", terminals.Real) ∷
    (codes "true", terminals.True) ∷
    []

abbrev pub of_five : List Spelling
of_five =
    (codes "const", terminals.Const) ∷
    (codes "axiom", terminals.Axiom) ∷
    (codes "where", terminals.Where) ∷
    (codes "havoc", terminals.Havoc) ∷
    (codes "while", terminals.While) ∷
    (codes "break", terminals.Break) ∷
    (codes "false", terminals.False) ∷
    (codes "async", terminals.Async) ∷
    (codes "yield", terminals.Yield) ∷
    []

abbrev pub of_six : List Spelling
of_six =
    (codes "unique", terminals.Unique) ∷
    (codes "assert", terminals.Assert) ∷
    (codes "assume", terminals.Assume) ∷
    (codes "return", terminals.Return) ∷
    (codes "forall", terminals.Forall) ∷
    (codes "exists", terminals.Exists) ∷
    (codes "lambda", terminals.Lambda) ∷
    []

abbrev pub of_seven : List Spelling
of_seven =
    (codes "returns", terminals.Returns) ∷
    (codes "ensures", terminals.Ensures) ∷
    (codes "extends", terminals.Extends) ∷
    []

abbrev pub of_eight : List Spelling
of_eight =
    (codes "function", terminals.Function) ∷
    (codes "modifies", terminals.Modifies) ∷
    (codes "requires", terminals.Requires) ∷
    (codes "complete", terminals.Complete) ∷
    []

abbrev pub of_nine : List Spelling
of_nine =
    (codes "procedure", terminals.Procedure) ∷
    (codes "invariant", terminals.Invariant) ∷
    []

abbrev pub of_fourteen : List Spelling
of_fourteen =
    (codes "implementation", terminals.Implementation) ∷
    []

-- The keywords, but for `bv` and digits.
abbrev pub keywords : List Spelling
keywords = of_two ++ of_three ++ of_four ++ of_five ++ of_six ++ of_seven ++ of_eight ++ of_nine ++ of_fourteen

-- the terminal that the whole word spells
unfoldable pub spelt : List Spelling → List ℕ → Option Terminal
spelt [] word = None
spelt (entry ∷ more) word = if bytes_eq word entry.0 then Some entry.1 else spelt more word

-- the signs with whose first byte no other sign begins
abbrev pub lone_signs : List Spelling
lone_signs =
    (codes "(", terminals.LeftParen) ∷
    (codes ")", terminals.RightParen) ∷
    (codes "[", terminals.LeftBracket) ∷
    (codes "]", terminals.RightBracket) ∷
    (codes "{", terminals.LeftBrace) ∷
    (codes "}", terminals.RightBrace) ∷
    (codes ",", terminals.Comma) ∷
    (codes ";", terminals.Semicolon) ∷
    (codes "-", terminals.Minus) ∷
    (codes "*", terminals.Star) ∷
    (codes "/", terminals.Slash) ∷
    (codes "%", terminals.Percent) ∷
    []

-- the others, a longer one before those with which it begins
abbrev pub shared_signs : List Spelling
shared_signs =
    (codes ":=", terminals.Assign) ∷
    (codes ":", terminals.Colon) ∷
    (codes "==>", terminals.Implies) ∷
    (codes "==", terminals.Equal) ∷
    (codes "=", terminals.EqualsSign) ∷
    (codes "!=", terminals.NotEqual) ∷
    (codes "!", terminals.Bang) ∷
    (codes "<==>", terminals.Equivalent) ∷
    (codes "<==", terminals.ImpliedBy) ∷
    (codes "<=", terminals.AtMost) ∷
    (codes "<", terminals.Less) ∷
    (codes ">=", terminals.AtLeast) ∷
    (codes ">", terminals.Greater) ∷
    (codes "&&", terminals.AndAnd) ∷
    (codes "||", terminals.OrOr) ∷
    (codes "++", terminals.PlusPlus) ∷
    (codes "+", terminals.Plus) ∷
    []

-- The signs, a longer one before those with which it begins.
abbrev pub signs : List Spelling
signs = lone_signs ++ shared_signs

-- the first of these that the text begins with: its terminal, and how many bytes it takes
unfoldable pub sign_of : List Spelling → List ℕ → Option (Terminal × ℕ)
sign_of [] bs = None
sign_of (entry ∷ more) bs = if starts_with nat_eq bs entry.0 then Some (entry.1, length entry.0) else sign_of more bs
