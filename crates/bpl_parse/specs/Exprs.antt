-- expr  = "if" expr "then" expr "else" expr | equiv
-- equiv = impl { "<==>" impl }
-- impl  = logic [ "==>" impl ] | logic "<==" logic { "<==" logic }
-- logic = rel | rel "&&" rel { "&&" rel } | rel "||" rel { "||" rel }
-- rel   = cat [ ( "==" | "!=" ) cat ]
-- cat   = unary { "++" unary }
-- unary = "!" unary | post
-- post  = atom { "[" expr "]" | "[" expr ":=" expr "]" | "[" number ":" number "]" }
-- atom  = "true" | "false" | literal | id | id "(" [ expr { "," expr } ] ")" | "(" expr ")"
-- Parentheses, brackets, the operand of `!`, the parts of an `if` and the right side of `==>` nest one level deeper.
use Rattle.std.specs.Prelude.{ℕ, false, List, [], ◌∷◌, Option, Some, None}
use Rattle.bpl_ast.specs.declared.expr.Bracket.{Bracket}
use Rattle.bpl_ast.specs.declared.expr.Bracket.TheVariants.{Select, Store, Extract}
use Rattle.bpl_ast.specs.declared.expr.Expr.{Expr}
use Rattle.bpl_ast.specs.declared.expr.Expr.TheVariants as e
use Rattle.bpl_ast.specs.declared.name.Name.{Name}
use Rattle.bpl_tok.specs.declared.token.Terminal.TheVariants as k
use Rattle.bpl_tok.specs.declared.token.TokKind.{TokKind}
use Rattle.bpl_tok.specs.declared.token.TokKind.TheVariants.{Ident, Keyword, Width, Number, BvLit, Str, Sign}
use Rattle.bpl_tok.specs.declared.token.Token.{Token}
use Rattle.bpl_parse.specs.declared.parts.ImplicationTail.{ImplicationTail}
use Rattle.bpl_parse.specs.declared.parts.ImplicationTail.TheVariants as impls
use Rattle.bpl_parse.specs.declared.parts.Level.{Level}
use Rattle.bpl_parse.specs.declared.parts.Level.TheVariants as levels
use Rattle.bpl_parse.specs.declared.parts.LogicTail.{LogicTail}
use Rattle.bpl_parse.specs.declared.parts.LogicTail.TheVariants as logics
use Rattle.bpl_parse.specs.declared.parts.RelationTail.{RelationTail}
use Rattle.bpl_parse.specs.declared.parts.RelationTail.TheVariants as relations
use Rattle.bpl_parse.specs.declared.place.Place.TheVariants as at
use Rattle.bpl_rules.specs.Rules.{one, two, empty, seq, made, placed, alt, maybe, many, some, sealed, never, behind, ended, separated, nested}
use Rattle.bpl_parse.specs.Tests.{is, begins_atom, begins_unary, begins_expr, follows_post, follows_cat, follows_rel, follows_logic, follows_impl, follows_expr}
use Rattle.bpl_parse.specs.Reader.{Reader, Levels, place_of, as_expr, as_impl, as_unary}
use Rattle.bpl_parse.specs.Names.{name}

-- ---- arguments

abbrev pub no_arguments : Reader (List Expr)
no_arguments = made (λ t. []) (one at.Operand (is k.RightParen))

abbrev pub some_arguments : Reader Expr → Reader (List Expr)
some_arguments r = ended (separated at.AfterOperand (is k.Comma) (as_expr r)) at.AfterOperand (is k.RightParen)

abbrev pub after_arguments : Reader Expr → Reader (List Expr)
after_arguments r = alt no_arguments (some_arguments r)

unfoldable pub arguments : Levels → Reader (List Expr)
arguments l = nested at.Other (is k.LeftParen) never (λ x. x.1) after_arguments l.exprs

-- ---- atoms

-- the width and the bits of a literal
abbrev pub literal_of : ℕ → TokKind → Expr
literal_of place (BvLit width bits) = e.Literal place width bits
literal_of place (Width width) = e.Literal place 0 0
literal_of place Ident = e.Literal place 0 0
literal_of place (Keyword word) = e.Literal place 0 0
literal_of place (Number value) = e.Literal place 0 0
literal_of place Str = e.Literal place 0 0
literal_of place (Sign sign) = e.Literal place 0 0

-- the value of a number
abbrev pub number_of : TokKind → ℕ
number_of (Number value) = value
number_of (Width width) = 0
number_of Ident = 0
number_of (Keyword word) = 0
number_of (BvLit width bits) = 0
number_of Str = 0
number_of (Sign sign) = 0

abbrev pub truth : Reader Expr
truth = made (λ t. e.True t.at) (one at.Operand (is k.True))

abbrev pub falsehood : Reader Expr
falsehood = made (λ t. e.False t.at) (one at.Operand (is k.False))

abbrev pub literal : Reader Expr
literal = made (λ t. literal_of t.at t.kind) (one at.Operand (is k.Literal))

abbrev pub after_group : Reader Expr → Reader Expr
after_group r = ended (as_expr r) at.AfterOperand (is k.RightParen)

unfoldable pub group : Levels → Reader Expr
group l = nested at.Operand (is k.LeftParen) never (λ x. x.1) after_group l.exprs

-- a variable, or a function and its arguments
abbrev pub named_expr : Name → Option (List Expr) → Expr
named_expr name None = e.Variable name
named_expr name (Some values) = e.Apply name values

abbrev pub named_of : Name × Option (List Expr) → Expr
named_of x = named_expr x.0 x.1

unfoldable pub named : List ℕ → Levels → Reader Expr
named s l = sealed (is k.Ident) false (is k.LeftParen) (made named_of (seq (name s at.Operand) (maybe (arguments l))))

unfoldable pub atom : List ℕ → Levels → Reader Expr
atom s l = sealed begins_atom false (is k.LeftParen) (alt truth (alt falsehood (alt literal (alt (group l) (named s l)))))

-- ---- brackets after an operand

abbrev pub bits_of : (Token × Token) × Token → Bracket
bits_of x = Extract (number_of x.0.0.kind) (number_of x.1.kind)

-- a number after the bracket needs the colon after it
abbrev pub bit_range : Reader Bracket
bit_range = made bits_of (seq (two at.Operand (is k.Number) (is k.Colon)) (ended (one at.Other (is k.Number)) at.Other (is k.RightBracket)))

abbrev pub selected : Reader (Option Expr)
selected = made (λ t. None) (one at.AfterIndex (is k.RightBracket))

abbrev pub stored : Reader Expr → Reader (Option Expr)
stored r = made Some (behind at.AfterIndex (is k.Assign) (ended (as_expr r) at.AfterOperand (is k.RightBracket)))

abbrev pub after_index : Reader Expr → Reader (Option Expr)
after_index r = alt selected (stored r)

-- an index alone selects, one with a value stores
abbrev pub index_of : Expr × Option Expr → Bracket
index_of (index, None) = Select index
index_of (index, Some value) = Store index value

abbrev pub indexed : Reader Expr → Reader Bracket
indexed r = made index_of (seq (as_expr r) (after_index r))

abbrev pub after_bracket : Reader Expr → Reader Bracket
after_bracket r = alt bit_range (indexed r)

unfoldable pub suffix : Levels → Reader Bracket
suffix l = nested at.AfterOperand (is k.LeftBracket) never (λ x. x.1) after_bracket l.exprs

-- each bracket applies to all that stands before it; an operand without brackets is itself
abbrev pub post_of : ℕ → Expr × List Bracket → Expr
post_of place (operand, []) = operand
post_of place (operand, b ∷ bs) = e.Post place operand (b ∷ bs)

unfoldable pub post : List ℕ → Levels → Reader Expr
post s l = sealed begins_atom false follows_post (placed (λ t. post_of (place_of t)) (seq (atom s l) (many (suffix l))))

-- ---- operators

abbrev pub after_bang : Reader Expr → Reader Expr
after_bang r = as_unary r

abbrev pub negation_of : Token × Expr → Expr
negation_of x = e.Not x.0.at x.1

unfoldable pub negation : Levels → Reader Expr
negation l = nested at.Operand (is k.Bang) follows_post negation_of after_bang l.unaries

unfoldable pub unary : List ℕ → Levels → Reader Expr
unary s l = sealed begins_unary false follows_post (alt (negation l) (post s l))

-- a chain of one operand is that operand
abbrev pub chain_of : (List Expr → Expr) → List Expr → Expr
chain_of f [] = f []
chain_of f (x ∷ []) = x
chain_of f (x ∷ y ∷ xs) = f (x ∷ y ∷ xs)

unfoldable pub cat : List ℕ → Levels → Reader Expr
cat s l = sealed begins_unary false follows_cat (placed (λ t. chain_of (e.Concat (place_of t))) (separated at.AfterOperand (is k.PlusPlus) (unary s l)))

abbrev pub relation_of : ℕ → Expr × RelationTail → Expr
relation_of place (left, relations.Alone) = left
relation_of place (left, relations.Equal right) = e.Equal place left right
relation_of place (left, relations.NotEqual right) = e.NotEqual place left right

abbrev pub equal_to : List ℕ → Levels → Reader RelationTail
equal_to s l = made relations.Equal (behind at.AfterOperand (is k.Equal) (cat s l))

abbrev pub unequal_to : List ℕ → Levels → Reader RelationTail
unequal_to s l = made relations.NotEqual (behind at.AfterOperand (is k.NotEqual) (cat s l))

unfoldable pub relation_tail : List ℕ → Levels → Reader RelationTail
relation_tail s l = alt (equal_to s l) (alt (unequal_to s l) (empty relations.Alone))

unfoldable pub rel : List ℕ → Levels → Reader Expr
rel s l = sealed begins_unary false follows_rel (placed (λ t. relation_of (place_of t)) (seq (cat s l) (relation_tail s l)))

abbrev pub logic_of : ℕ → Expr × LogicTail → Expr
logic_of place (first, logics.Alone) = first
logic_of place (first, logics.Ands more) = e.And place (first ∷ more)
logic_of place (first, logics.Ors more) = e.Or place (first ∷ more)

unfoldable pub conjunct : List ℕ → Levels → Reader Expr
conjunct s l = sealed (is k.AndAnd) false follows_rel (behind at.AfterOperand (is k.AndAnd) (rel s l))

unfoldable pub disjunct : List ℕ → Levels → Reader Expr
disjunct s l = sealed (is k.OrOr) false follows_rel (behind at.AfterOperand (is k.OrOr) (rel s l))

abbrev pub ands : List ℕ → Levels → Reader LogicTail
ands s l = made logics.Ands (some (conjunct s l))

abbrev pub ors : List ℕ → Levels → Reader LogicTail
ors s l = made logics.Ors (some (disjunct s l))

unfoldable pub logic_tail : List ℕ → Levels → Reader LogicTail
logic_tail s l = alt (ands s l) (alt (ors s l) (empty logics.Alone))

unfoldable pub logic : List ℕ → Levels → Reader Expr
logic s l = sealed begins_unary false follows_logic (placed (λ t. logic_of (place_of t)) (seq (rel s l) (logic_tail s l)))

abbrev pub implication_of : ℕ → Expr × ImplicationTail → Expr
implication_of place (first, impls.Alone) = first
implication_of place (first, impls.Right right) = e.Implies place first right
implication_of place (first, impls.Lefts more) = e.ImpliedBy place (first ∷ more)

abbrev pub after_implies : Reader Expr → Reader Expr
after_implies r = as_impl r

unfoldable pub right : Levels → Reader Expr
right l = nested at.AfterOperand (is k.Implies) follows_impl (λ x. x.1) after_implies l.impls

unfoldable pub left : List ℕ → Levels → Reader Expr
left s l = sealed (is k.ImpliedBy) false follows_logic (behind at.AfterOperand (is k.ImpliedBy) (logic s l))

abbrev pub rights : Levels → Reader ImplicationTail
rights l = made impls.Right (right l)

abbrev pub lefts : List ℕ → Levels → Reader ImplicationTail
lefts s l = made impls.Lefts (some (left s l))

unfoldable pub impl_tail : List ℕ → Levels → Reader ImplicationTail
impl_tail s l = alt (rights l) (alt (lefts s l) (empty impls.Alone))

unfoldable pub implication : List ℕ → Levels → Reader Expr
implication s l = sealed begins_unary false follows_impl (placed (λ t. implication_of (place_of t)) (seq (logic s l) (impl_tail s l)))

unfoldable pub equiv : List ℕ → Levels → Reader Expr
equiv s l = sealed begins_unary false follows_expr (placed (λ t. chain_of (e.Equivalent (place_of t))) (separated at.AfterOperand (is k.Equivalent) (implication s l)))

abbrev pub choice_of : Token × (Expr × (Expr × Expr)) → Expr
choice_of x = e.Choice x.0.at x.1.0 x.1.1.0 x.1.1.1

abbrev pub after_if : Reader Expr → Reader (Expr × (Expr × Expr))
after_if r = seq (as_expr r) (seq (behind at.AfterOperand (is k.Then) (as_expr r)) (behind at.AfterOperand (is k.Else) (as_expr r)))

unfoldable pub choice : Levels → Reader Expr
choice l = nested at.Operand (is k.If) follows_expr choice_of after_if l.exprs

unfoldable pub expr : List ℕ → Levels → Reader Expr
expr s l = sealed begins_expr false follows_expr (alt (choice l) (equiv s l))

-- the rule of what is nested in an expression
abbrev pub nested_expr : Level → List ℕ → Levels → Reader Expr
nested_expr levels.Expr s l = expr s l
nested_expr levels.Implication s l = implication s l
nested_expr levels.Unary s l = unary s l
