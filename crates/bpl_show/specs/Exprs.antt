-- The tokens of expressions: parentheses stand only where the grammar asks for a narrower phrase than the one that stands there, so
-- exactly where the tree would be another one without them.
use Rattle.std.specs.Prelude.{ℕ, nat_lt, List, ◌++◌, flat_map, if◌then◌else◌, codes}
use Rattle.std.specs.Fmt.{decimal}
use Rattle.std.specs.List.{join_by}
use Rattle.bpl_ast.specs.declared.expr.Bracket.{Bracket}
use Rattle.bpl_ast.specs.declared.expr.Bracket.TheFolds.{fold-Bracket, fold-Expr}
use Rattle.bpl_ast.specs.declared.expr.Bracket.TheOpen.{Bracket-F, Expr-F}
use Rattle.bpl_ast.specs.declared.expr.Expr.{Expr, out-Expr}
use Rattle.bpl_show.specs.declared.phrase.Phrase.{Phrase}
use Rattle.bpl_show.specs.declared.phrase.Phrase.TheVariants.{Whole, Equivalence, Implication, Logic, Relation, Concatenation, Unary, Operand}
use Rattle.bpl_show.specs.Names.{name, listed}
use Rattle.bpl_show.specs.Tokens.{Token, word, number}

-- the kinds of phrase in their order
abbrev pub rank : Phrase → ℕ
rank Whole = 0
rank Equivalence = 1
rank Implication = 2
rank Logic = 3
rank Relation = 4
rank Concatenation = 5
rank Unary = 6
rank Operand = 7

-- a phrase of one kind at a place that asks for another kind
abbrev pub placed : Phrase → Phrase → List Token → List Token
placed own asked tokens = if nat_lt (rank own) (rank asked) then word (codes "(") ++ tokens ++ word (codes ")") else tokens

-- the tokens at each place
abbrev pub Shown : Type 0
Shown = Phrase → List Token

-- operands of one kind with a sign between them; a chain of fewer than two is in no text
abbrev pub chain : List ℕ → Phrase → List Shown → List Token
chain sign kind operands = join_by (λ x. x kind) (word sign) operands

abbrev pub two_sides : List ℕ → Shown → Phrase → Shown → Phrase → List Token
two_sides sign left left_kind right right_kind = left left_kind ++ word sign ++ right right_kind

-- the bits in decimal, `bv` and the width are one token
abbrev pub literal : ℕ → ℕ → List ℕ
literal width bits = decimal bits ++ codes "bv" ++ decimal width

abbrev pub bracket_node : Bracket-F (List Token) Shown → List Token
bracket_node (Bracket-F.Select index) = word (codes "[") ++ index Whole ++ word (codes "]")
bracket_node (Bracket-F.Store index value) = word (codes "[") ++ index Whole ++ word (codes ":=") ++ value Whole ++ word (codes "]")
bracket_node (Bracket-F.Extract high low) = word (codes "[") ++ number high ++ word (codes ":") ++ number low ++ word (codes "]")

-- the kind of phrase that the grammar makes of a node
abbrev pub kind_of : {B E : Type 0} → Expr-F B E → Phrase
kind_of (Expr-F.True at) = Operand
kind_of (Expr-F.False at) = Operand
kind_of (Expr-F.Literal at width bits) = Operand
kind_of (Expr-F.Variable n) = Operand
kind_of (Expr-F.Apply function arguments) = Operand
kind_of (Expr-F.Post at operand brackets) = Operand
kind_of (Expr-F.Not at operand) = Unary
kind_of (Expr-F.Concat at operands) = Concatenation
kind_of (Expr-F.Equal at left right) = Relation
kind_of (Expr-F.NotEqual at left right) = Relation
kind_of (Expr-F.And at operands) = Logic
kind_of (Expr-F.Or at operands) = Logic
kind_of (Expr-F.Implies at left right) = Implication
kind_of (Expr-F.ImpliedBy at operands) = Implication
kind_of (Expr-F.Equivalent at operands) = Equivalence
kind_of (Expr-F.Choice at condition one other) = Whole

-- the tokens of a node without parentheses around it
abbrev pub bare : Expr-F (List Token) Shown → List Token
bare (Expr-F.True at) = word (codes "true")
bare (Expr-F.False at) = word (codes "false")
bare (Expr-F.Literal at width bits) = word (literal width bits)
bare (Expr-F.Variable n) = name n
bare (Expr-F.Apply function arguments) = name function ++ word (codes "(") ++ listed (λ x. x Whole) arguments ++ word (codes ")")
bare (Expr-F.Post at operand brackets) = operand Operand ++ flat_map (λ b. b) brackets
bare (Expr-F.Not at operand) = word (codes "!") ++ operand Unary
bare (Expr-F.Concat at operands) = chain (codes "++") Unary operands
bare (Expr-F.Equal at left right) = two_sides (codes "==") left Concatenation right Concatenation
bare (Expr-F.NotEqual at left right) = two_sides (codes "!=") left Concatenation right Concatenation
bare (Expr-F.And at operands) = chain (codes "&&") Relation operands
bare (Expr-F.Or at operands) = chain (codes "||") Relation operands
bare (Expr-F.Implies at left right) = two_sides (codes "==>") left Logic right Implication
bare (Expr-F.ImpliedBy at operands) = chain (codes "<==") Logic operands
bare (Expr-F.Equivalent at operands) = chain (codes "<==>") Implication operands
bare (Expr-F.Choice at condition one other) =
    word (codes "if") ++ condition Whole ++ word (codes "then") ++ one Whole ++ word (codes "else") ++ other Whole

abbrev pub expr_node : Expr-F (List Token) Shown → Shown
expr_node node asked = placed (kind_of node) asked (bare node)

unfoldable pub expr : Expr → Phrase → List Token
expr = fold-Expr (List Token) Shown bracket_node expr_node

unfoldable pub bracket : Bracket → List Token
bracket = fold-Bracket (List Token) Shown bracket_node expr_node

-- an expression where any may stand
abbrev pub whole : Expr → List Token
whole x = expr x Whole

-- the kind of phrase that an expression is
unfoldable pub kind : Expr → Phrase
kind x = kind_of (out-Expr x)

-- expressions at places of one kind, with a sign between them
abbrev pub chained : List ℕ → Phrase → List Expr → List Token
chained sign asked xs = join_by (λ x. expr x asked) (word sign) xs
