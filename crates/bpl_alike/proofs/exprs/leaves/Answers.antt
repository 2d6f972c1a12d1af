use Rattle.std.proofs.Common.{sym, ◌∙◌, rules}
use Rattle.bpl_ast.specs.declared.expr.Bracket.TheOpen.{Expr-F}
use Rattle.bpl_ast.specs.declared.expr.Expr.{out-Expr}
use Rattle.bpl_ast.specs.declared.expr.Expr.TheVariants as e
use Rattle.bpl_alike.proofs.ExprLaws.{apart, both, turned, not-true, not-false, not-literal, not-variable}
use Rattle.bpl_alike.proofs.GroupLaws.{no_leaf}
use Rattle.bpl_alike.proofs.exprs.leaves.Goals as goal

pub returns-in-True-True : goal.returns-in-True-True
returns-in-True-True c = let a = c.in-True-True in both (Expr-F.True a.at-0) (Expr-F.True a.at-1) (tt {0}) (tt {0}) (a.is-0 ∙ sym (e.rolls-True _)) (a.is-1 ∙ sym (e.rolls-True _)) (search rules)

pub returns-in-False-False : goal.returns-in-False-False
returns-in-False-False c = let a = c.in-False-False in both (Expr-F.False a.at-0) (Expr-F.False a.at-1) (tt {0}) (tt {0}) (a.is-0 ∙ sym (e.rolls-False _)) (a.is-1 ∙ sym (e.rolls-False _)) (search rules)

pub returns-then-w-v : goal.returns-then-w-v
returns-then-w-v c = let a = c.in-Literal-Literal in both (Expr-F.Literal a.at-0 a.w a.x) (Expr-F.Literal a.at-1 a.v a.y) (tt {0}) (tt {0}) (a.is-0 ∙ sym (e.rolls-Literal _ _ _)) (a.is-1 ∙ sym (e.rolls-Literal _ _ _)) (search rules)

pub returns-else-w-v : goal.returns-else-w-v
returns-else-w-v c = let a = c.in-Literal-Literal in both (Expr-F.Literal a.at-0 a.w a.x) (Expr-F.Literal a.at-1 a.v a.y) (tt {0}) (tt {0}) (a.is-0 ∙ sym (e.rolls-Literal _ _ _)) (a.is-1 ∙ sym (e.rolls-Literal _ _ _)) (search rules)

pub returns-in-Variable-Variable : goal.returns-in-Variable-Variable
returns-in-Variable-Variable c = let a = c.in-Variable-Variable in both (Expr-F.Variable a.x) (Expr-F.Variable a.y) (tt {0}) (tt {0}) (a.is-0 ∙ sym (e.rolls-Variable _)) (a.is-1 ∙ sym (e.rolls-Variable _)) (search rules)

pub returns-in_default : goal.returns-in_default
returns-in_default c = let a = c.in_default in apart c.args.b.now (Expr-F.True a.field-0-0) (tt {0}) (a.is-0 ∙ sym (e.rolls-True _)) c.requires.no_brackets (not-true a.field-0-0 (out-Expr c.args.b.now) (λ p0 is. a.not-True-1 p0 (turned c.args.b.now (Expr-F.True p0) is ∙ e.rolls-True p0)))

pub returns-in_default-2 : goal.returns-in_default-2
returns-in_default-2 c = let a = c.in_default in apart c.args.b.now (Expr-F.False a.field-0-0) (tt {0}) (a.is-0 ∙ sym (e.rolls-False _)) c.requires.no_brackets (not-false a.field-0-0 (out-Expr c.args.b.now) (λ p0 is. a.not-False-1 p0 (turned c.args.b.now (Expr-F.False p0) is ∙ e.rolls-False p0)))

pub returns-in_default-3 : goal.returns-in_default-3
returns-in_default-3 c = let a = c.in_default in apart c.args.b.now (Expr-F.Literal a.field-0-0 a.field-1-0 a.field-2-0) (tt {0}) (a.is-0 ∙ sym (e.rolls-Literal _ _ _)) c.requires.no_brackets (not-literal a.field-0-0 a.field-1-0 a.field-2-0 (out-Expr c.args.b.now) (λ p0 p1 p2 is. a.not-Literal-1 p0 p1 p2 (turned c.args.b.now (Expr-F.Literal p0 p1 p2) is ∙ e.rolls-Literal p0 p1 p2)))

pub returns-in_default-4 : goal.returns-in_default-4
returns-in_default-4 c = let a = c.in_default in apart c.args.b.now (Expr-F.Variable a.field-0-0) (tt {0}) (a.is-0 ∙ sym (e.rolls-Variable _)) c.requires.no_brackets (not-variable a.field-0-0 (out-Expr c.args.b.now) (λ p0 is. a.not-Variable-1 p0 (turned c.args.b.now (Expr-F.Variable p0) is ∙ e.rolls-Variable p0)))

pub returns-in_default-5 : goal.returns-in_default-5
returns-in_default-5 c = absurd (no_leaf c.args.a.now c.requires.grouped c.in_default.not-True-0 c.in_default.not-False-0 c.in_default.not-Literal-0 c.in_default.not-Variable-0)
