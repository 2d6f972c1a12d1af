use Rattle.std.proofs.Common.{◌≡◌, map, take}
use Rattle.bpl_type.specs.WellMade.{stmt_in}
use Rattle.bpl_type.proofs.making.+making.Given as goal

abbrev pub invariant-typed_block-loop-stmt : goal.invariant-typed_block-loop-stmt
invariant-typed_block-loop-stmt l = l.made ≡ map (stmt_in l.program.ast.now l.scope) (take l.stmt-index l.stmts)
