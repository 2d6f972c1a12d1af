-- An operand with brackets that stand behind it.
use Rattle.std.specs.Prelude.{List, ◌++◌, map}
use Rattle.bpl_ast.specs.Alike.{Spine, spine, bare_bracket}
use Rattle.bpl_ast.specs.declared.expr.Bracket.{Bracket}
use Rattle.bpl_ast.specs.declared.expr.Expr.{Expr}

-- the operand inside x with the brackets of x, and then these
abbrev pub behind : Expr → List Bracket → Spine
behind x more = record { operand = (spine x).operand; brackets = (spine x).brackets ++ map bare_bracket more }
