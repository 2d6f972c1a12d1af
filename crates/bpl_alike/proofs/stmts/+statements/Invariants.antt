use Rattle.std.proofs.Common.{◌≡◌, map, take}
use Rattle.bpl_ast.specs.Alike.{bare_stmt}
use Rattle.bpl_alike.proofs.stmts.+statements.Given as goal

abbrev pub invariant-blocks-loop-i : goal.invariant-blocks-loop-i
invariant-blocks-loop-i l = map bare_stmt (take l.i l.a) ≡ map bare_stmt (take l.i l.b)
