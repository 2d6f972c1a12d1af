-- What all rules of the grammar share: the names of a source, and what may still be nested.
use Rattle.std.specs.Prelude.{ℕ, true, false, List, Option, Some, None, take, drop}
use Rattle.bpl_ast.specs.declared.expr.Expr.{Expr}
use Rattle.bpl_ast.specs.declared.name.Name.{Name}
use Rattle.bpl_ast.specs.declared.sort.Sort.{Sort}
use Rattle.bpl_ast.specs.declared.stmt.Stmt.{Stmt}
use Rattle.bpl_tok.specs.declared.token.Terminal.TheVariants as k
use Rattle.bpl_tok.specs.declared.token.Token.{Token}
use Rattle.bpl_parse.specs.declared.parts.IfRest.{IfRest}
use Rattle.bpl_parse.specs.declared.place.Place.{Place}
use Rattle.bpl_rules.specs.Rules.{Rule, Below, never, sealed}
use Rattle.bpl_parse.specs.Tests.{is, begins_sort, begins_unary, begins_expr, begins_stmt, begins_if_rest, follows_post, follows_impl, follows_expr, follows_stmts}

abbrev pub Reader : Type 0 → Type 1
Reader A = Rule Place Token A

-- where a node begins, by the first token of its phrase
abbrev pub place_of : Option Token → ℕ
place_of None = 0
place_of (Some t) = t.at

-- the bytes of a token in the source
abbrev pub text_of : List ℕ → Token → List ℕ
text_of source t = take t.len (drop t.at source)

abbrev pub name_of : List ℕ → Token → Name
name_of source t = record { at = t.at; text = text_of source t }

-- ---- a rule with the first and following tokens of a rule that may nest

abbrev pub as_sort : Reader Sort → Reader Sort
as_sort r = sealed begins_sort false never r

abbrev pub as_expr : Reader Expr → Reader Expr
as_expr r = sealed begins_expr false follows_expr r

abbrev pub as_impl : Reader Expr → Reader Expr
as_impl r = sealed begins_unary false follows_impl r

abbrev pub as_unary : Reader Expr → Reader Expr
as_unary r = sealed begins_unary false follows_post r

abbrev pub as_stmts : Reader (List Stmt) → Reader (List Stmt)
as_stmts r = sealed begins_stmt true follows_stmts r

abbrev pub as_if_rest : Reader IfRest → Reader IfRest
as_if_rest r = sealed begins_if_rest false (is k.Else) r

-- what may still be nested, at each of these, if a level is left
pub record Levels : Type 1 where
  pub sorts : Below Place Token Sort
  pub exprs : Below Place Token Expr
  pub impls : Below Place Token Expr
  pub unaries : Below Place Token Expr
  pub blocks : Below Place Token (List Stmt)
  pub ifs : Below Place Token IfRest
