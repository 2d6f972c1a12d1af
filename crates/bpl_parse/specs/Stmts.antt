-- stmt   = id ":" | "assert" {attr} expr ";" | "assume" {attr} expr ";" | "havoc" {attr} ids ";" | "goto" {attr} ids ";"
--        | "return" {attr} ";" | "break" {attr} [id] ";" | lhs { "," lhs } ":=" expr { "," expr } ";"
--        | "call" {attr} [ ids ":=" ] id "(" [ expr { "," expr } ] ")" ";" | ifstmt
--        | "while" {attr} "(" guard ")" { ["free"] "invariant" {attr} expr ";" } "{" {stmt} "}"
-- ifstmt = "if" {attr} "(" guard ")" "{" {stmt} "}" [ "else" ( ifstmt | "{" {stmt} "}" ) ]
-- guard  = "*" | expr
-- lhs    = id [ "[" expr "]" ]
-- Brackets, the braces of an `if` or a `while`, and an `if` after `else` nest one level deeper; the parentheses of a guard do not.
use Rattle.std.specs.Prelude.{ℕ, Bool, true, false, List, [], ◌∷◌, Option, Some, None, is_some}
use Rattle.bpl_ast.specs.declared.expr.Expr.{Expr}
use Rattle.bpl_ast.specs.declared.name.Attribute.{Attribute}
use Rattle.bpl_ast.specs.declared.name.Name.{Name}
use Rattle.bpl_ast.specs.declared.stmt.Else.{Else}
use Rattle.bpl_ast.specs.declared.stmt.Else.TheVariants as others
use Rattle.bpl_ast.specs.declared.stmt.Guard.{Guard}
use Rattle.bpl_ast.specs.declared.stmt.Guard.TheVariants as guards
use Rattle.bpl_ast.specs.declared.stmt.If.{If}
use Rattle.bpl_ast.specs.declared.stmt.Invariant.{Invariant}
use Rattle.bpl_ast.specs.declared.stmt.Stmt.{Stmt}
use Rattle.bpl_ast.specs.declared.stmt.Stmt.TheVariants as stmts
use Rattle.bpl_ast.specs.declared.stmt.Target.{Target}
use Rattle.bpl_tok.specs.declared.token.Terminal.TheVariants as k
use Rattle.bpl_tok.specs.declared.token.Token.{Token}
use Rattle.bpl_parse.specs.declared.parts.CalledRest.{CalledRest}
use Rattle.bpl_parse.specs.declared.parts.CalledRest.TheVariants as calls
use Rattle.bpl_parse.specs.declared.parts.IfRest.{IfRest}
use Rattle.bpl_parse.specs.declared.parts.NamedRest.{NamedRest}
use Rattle.bpl_parse.specs.declared.parts.NamedRest.TheVariants as rests
use Rattle.bpl_parse.specs.declared.place.Place.TheVariants as at
use Rattle.bpl_rules.specs.Rules.{one, seq, made, placed, alt, maybe, many, sealed, never, behind, ended, separated, nested}
use Rattle.bpl_parse.specs.Tests.{is, begins_assignment, begins_simple, begins_stmt, begins_invariant, begins_if_rest, follows_stmts}
use Rattle.bpl_parse.specs.Reader.{Reader, Levels, place_of, as_expr, as_stmts, as_if_rest}
use Rattle.bpl_parse.specs.Names.{name, names, attributes}
use Rattle.bpl_parse.specs.Exprs.{arguments, expr}

-- ---- statements that begin with a name: labels and assignments

abbrev pub after_target : Reader Expr → Reader Expr
after_target r = ended (as_expr r) at.AfterIndex (is k.RightBracket)

unfoldable pub target_index : Levels → Reader Expr
target_index l = nested at.Other (is k.LeftBracket) never (λ x. x.1) after_target l.exprs

abbrev pub target_of : Name × Option Expr → Target
target_of x = record { name = x.0; index = x.1 }

unfoldable pub next_target : List ℕ → Levels → Reader Target
next_target s l = sealed (is k.Comma) false (is k.LeftBracket) (behind at.Other (is k.Comma) (made target_of (seq (name s at.Other) (maybe (target_index l)))))

unfoldable pub values : List ℕ → Levels → Reader (List Expr)
values s l = ended (separated at.AfterOperand (is k.Comma) (expr s l)) at.AfterOperand (is k.Semicolon)

abbrev pub assignment_of : Option Expr × (List Target × List Expr) → NamedRest
assignment_of x = rests.Assign x.0 x.1.0 x.1.1

unfoldable pub assignment : List ℕ → Levels → Reader NamedRest
assignment s l = sealed begins_assignment false never (made assignment_of (seq (maybe (target_index l)) (seq (many (next_target s l)) (behind at.Other (is k.Assign) (values s l)))))

abbrev pub label_colon : Reader NamedRest
label_colon = made (λ t. rests.Label) (one at.Other (is k.Colon))

abbrev pub named_stmt_of : Name × NamedRest → Stmt
named_stmt_of (n, rests.Label) = stmts.Label n
named_stmt_of (n, rests.Assign index more right) = stmts.Assign n.at (record { name = n; index = index } ∷ more) right

abbrev pub named_rest : List ℕ → Levels → Reader NamedRest
named_rest s l = alt label_colon (assignment s l)

unfoldable pub named_stmt : List ℕ → Levels → Reader Stmt
named_stmt s l = sealed (is k.Ident) false never (made named_stmt_of (seq (name s at.Statement) (named_rest s l)))

-- ---- statements of one line that begin with a word

abbrev pub condition : List ℕ → Levels → Reader (List Attribute × Expr)
condition s l = seq (attributes s) (ended (expr s l) at.AfterOperand (is k.Semicolon))

abbrev pub listing : List ℕ → Reader (List Attribute × List Name)
listing s = seq (attributes s) (ended (names s) at.Other (is k.Semicolon))

abbrev pub assert_of : Token × (List Attribute × Expr) → Stmt
assert_of x = stmts.Assert x.0.at x.1.0 x.1.1

unfoldable pub assertion : List ℕ → Levels → Reader Stmt
assertion s l = sealed (is k.Assert) false never (made assert_of (seq (one at.Statement (is k.Assert)) (condition s l)))

abbrev pub assume_of : Token × (List Attribute × Expr) → Stmt
assume_of x = stmts.Assume x.0.at x.1.0 x.1.1

unfoldable pub assumption_stmt : List ℕ → Levels → Reader Stmt
assumption_stmt s l = sealed (is k.Assume) false never (made assume_of (seq (one at.Statement (is k.Assume)) (condition s l)))

abbrev pub havoc_of : Token × (List Attribute × List Name) → Stmt
havoc_of x = stmts.Havoc x.0.at x.1.0 x.1.1

unfoldable pub havoc : List ℕ → Reader Stmt
havoc s = sealed (is k.Havoc) false never (made havoc_of (seq (one at.Statement (is k.Havoc)) (listing s)))

abbrev pub goto_of : Token × (List Attribute × List Name) → Stmt
goto_of x = stmts.Goto x.0.at x.1.0 x.1.1

unfoldable pub jump : List ℕ → Reader Stmt
jump s = sealed (is k.Goto) false never (made goto_of (seq (one at.Statement (is k.Goto)) (listing s)))

abbrev pub return_of : Token × List Attribute → Stmt
return_of x = stmts.Return x.0.at x.1

unfoldable pub return_stmt : List ℕ → Reader Stmt
return_stmt s = sealed (is k.Return) false never (made return_of (seq (one at.Statement (is k.Return)) (ended (attributes s) at.Other (is k.Semicolon))))

abbrev pub break_of : Token × (List Attribute × Option Name) → Stmt
break_of x = stmts.Break x.0.at x.1.0 x.1.1

unfoldable pub break_stmt : List ℕ → Reader Stmt
break_stmt s = sealed (is k.Break) false never (made break_of (seq (one at.Statement (is k.Break)) (seq (attributes s) (ended (maybe (name s at.Other)) at.Other (is k.Semicolon)))))

abbrev pub call_alone : Levels → Reader CalledRest
call_alone l = made calls.Arguments (arguments l)

abbrev pub next_out : List ℕ → Reader Name
next_out s = behind at.Other (is k.Comma) (name s at.Other)

abbrev pub outs_of : List Name × (Name × List Expr) → CalledRest
outs_of x = calls.Outs x.0 x.1.0 x.1.1

abbrev pub call_with_outs : List ℕ → Levels → Reader CalledRest
call_with_outs s l = made outs_of (seq (many (next_out s)) (behind at.Other (is k.Assign) (seq (name s at.Other) (arguments l))))

abbrev pub called_rest : List ℕ → Levels → Reader CalledRest
called_rest s l = alt (call_alone l) (call_with_outs s l)

-- a name, and what follows it: the procedure's where no `:=` stands, else the first that takes an out
abbrev pub call_at : ℕ → List Attribute → Name → CalledRest → Stmt
call_at place attributes n (calls.Arguments args) = stmts.Call place attributes [] n args
call_at place attributes n (calls.Outs outs p args) = stmts.Call place attributes (n ∷ outs) p args

abbrev pub call_of : Token × (List Attribute × (Name × CalledRest)) → Stmt
call_of x = call_at x.0.at x.1.0 x.1.1.0 x.1.1.1

unfoldable pub call_stmt : List ℕ → Levels → Reader Stmt
call_stmt s l = sealed (is k.Call) false never (made call_of (seq (one at.Statement (is k.Call)) (seq (attributes s) (ended (seq (name s at.Called) (called_rest s l)) at.Other (is k.Semicolon)))))

unfoldable pub simple : List ℕ → Levels → Reader Stmt
simple s l = sealed begins_simple false never (alt (assertion s l) (alt (assumption_stmt s l) (alt (havoc s) (alt (jump s) (alt (return_stmt s) (alt (break_stmt s) (call_stmt s l)))))))

-- ---- guards and blocks

abbrev pub any_guard : Reader Guard
any_guard = ended (made (λ t. guards.Any t.at) (one at.Operand (is k.Star))) at.Other (is k.RightParen)

abbrev pub condition_guard : List ℕ → Levels → Reader Guard
condition_guard s l = ended (made guards.Condition (expr s l)) at.AfterOperand (is k.RightParen)

-- a guard and the parenthesis after it
unfoldable pub guard : List ℕ → Levels → Reader Guard
guard s l = alt any_guard (condition_guard s l)

abbrev pub after_brace : Reader (List Stmt) → Reader (List Stmt)
after_brace r = ended (as_stmts r) at.Statement (is k.RightBrace)

unfoldable pub block : Levels → Reader (List Stmt)
block l = nested at.Other (is k.LeftBrace) never (λ x. x.1) after_brace l.blocks

-- ---- if

abbrev pub if_at : ℕ → IfRest → If
if_at place x = record { at = place; attributes = x.attributes; guard = x.guard; then = x.then; other = x.other }

abbrev pub if_of : Token × IfRest → If
if_of x = if_at x.0.at x.1

abbrev pub after_else_if : Reader IfRest → Reader IfRest
after_else_if r = as_if_rest r

unfoldable pub else_if : Levels → Reader If
else_if l = nested at.Other (is k.If) (is k.Else) if_of after_else_if l.ifs

abbrev pub else_end : Levels → Reader Else
else_end l = alt (made others.If (else_if l)) (made others.Block (block l))

unfoldable pub else_part : Levels → Reader Else
else_part l = sealed (is k.Else) false (is k.Else) (behind at.Other (is k.Else) (else_end l))

abbrev pub other_of : Option Else → Else
other_of None = others.Absent
other_of (Some x) = x

abbrev pub if_rest_of : List Attribute × (Guard × (List Stmt × Option Else)) → IfRest
if_rest_of x = record { attributes = x.0; guard = x.1.0; then = x.1.1.0; other = other_of x.1.1.1 }

unfoldable pub if_rest : List ℕ → Levels → Reader IfRest
if_rest s l = sealed begins_if_rest false (is k.Else) (made if_rest_of (seq (attributes s) (behind at.Other (is k.LeftParen) (seq (guard s l) (seq (block l) (maybe (else_part l)))))))

abbrev pub if_stmt_of : Token × IfRest → Stmt
if_stmt_of x = stmts.If (if_of x)

unfoldable pub if_stmt : List ℕ → Levels → Reader Stmt
if_stmt s l = sealed (is k.If) false (is k.Else) (made if_stmt_of (seq (one at.Statement (is k.If)) (if_rest s l)))

-- ---- while

-- whether `free` stands
abbrev pub freedom : Reader Bool
freedom = made is_some (maybe (one at.Other (is k.Free)))

abbrev pub invariant_of : ℕ → Bool × (List Attribute × Expr) → Invariant
invariant_of place x = record { at = place; free = x.0; attributes = x.1.0; condition = x.1.1 }

unfoldable pub invariant : List ℕ → Levels → Reader Invariant
invariant s l = sealed begins_invariant false never (placed (λ t. invariant_of (place_of t)) (seq freedom (behind at.Other (is k.Invariant) (condition s l))))

abbrev pub while_of : Token × (List Attribute × (Guard × (List Invariant × List Stmt))) → Stmt
while_of x = stmts.While x.0.at x.1.0 x.1.1.0 x.1.1.1.0 x.1.1.1.1

unfoldable pub while_stmt : List ℕ → Levels → Reader Stmt
while_stmt s l = sealed (is k.While) false never (made while_of (seq (one at.Statement (is k.While)) (seq (attributes s) (behind at.Other (is k.LeftParen) (seq (guard s l) (seq (many (invariant s l)) (block l)))))))

-- ---- all statements

unfoldable pub stmt : List ℕ → Levels → Reader Stmt
stmt s l = sealed begins_stmt false (is k.Else) (alt (simple s l) (alt (if_stmt s l) (alt (while_stmt s l) (named_stmt s l))))

unfoldable pub statements : List ℕ → Levels → Reader (List Stmt)
statements s l = sealed begins_stmt true follows_stmts (many (stmt s l))
