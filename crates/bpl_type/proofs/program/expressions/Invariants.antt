use Rattle.std.proofs.Common.{◌≡◌, map, take}
use Rattle.bpl_type.specs.WellMade.{expr_in}
use Rattle.bpl_type.proofs.program.expressions.Given as goal

abbrev pub invariant-loop-expr : goal.invariant-loop-expr
invariant-loop-expr l = l.made ≡ map (expr_in l.program.ast.now l.scope) (take l.expr-index l.exprs)
