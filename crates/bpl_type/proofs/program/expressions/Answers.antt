use Rattle.hy_val.specs.Exprs.{is_expr}
use Rattle.bpl_type.specs.WellMade.{expr_in}
use Rattle.bpl_type.proofs.ProgramLaws.{one-of}
use Rattle.bpl_type.proofs.program.expressions.Goals as goal

pub expression-requires : goal.expression-requires
expression-requires c = one-of is_expr (expr_in c.args.program.now.ast.now c.args.scope.now) c.args.exprs.now c.loop-expr.expr-index c.expr-item.result c.loop-expr-test.true c.expr-item.is c.requires
