use Rattle.std.proofs.Common.{rules, arith}
use Rattle.bpl_ast.specs.declared.stmt.Else.TheViews.{the_lemmas}
use Rattle.bpl_type.specs.WellMade.{is_made, stmt_in}
use Rattle.bpl_type.proofs.MakingEquations.{then-made, other-made, else-if-made, else-block-made, stmt-if-made, body-made}
use Rattle.bpl_type.proofs.ProgramLaws.{one-of}
use Rattle.bpl_type.proofs.making.+making.Goals as goal

pub typed_block-typed_stmt-requires : goal.typed_block-typed_stmt-requires
typed_block-typed_stmt-requires t c =
    (first_of (search (rules, the_lemmas), search rules, grind arith), one-of is_made (stmt_in c.args.program.now.ast.now c.args.scope.now) c.args.stmts.now c.loop-stmt.stmt-index c.stmt-item.result c.loop-stmt-test.true c.stmt-item.is c.requires)

pub typed_else-typed_if-requires : goal.typed_else-typed_if-requires
typed_else-typed_if-requires t c = (first_of (search (rules, the_lemmas), search rules, grind arith), else-if-made c.args.program.now.ast.now c.args.scope.now c.args.other.now c.in-If.inner c.get.result.now c.in-If.is c.get.ensures c.requires)

pub typed_else-typed_block-requires : goal.typed_else-typed_block-requires
typed_else-typed_block-requires t c = (first_of (search (rules, the_lemmas), search rules, grind arith), else-block-made c.args.program.now.ast.now c.args.scope.now c.args.other.now c.in-Block.body c.as_slice.result.now c.in-Block.is c.as_slice.ensures c.requires)

pub typed_if-typed_block-requires : goal.typed_if-typed_block-requires
typed_if-typed_block-requires t c = (first_of (search (rules, the_lemmas), search rules, grind arith), then-made c.args.program.now.ast.now c.args.scope.now c.args.inner.now c.as_slice.result.now c.as_slice.ensures c.requires)

pub typed_if-typed_else-requires : goal.typed_if-typed_else-requires
typed_if-typed_else-requires t c = (first_of (search (rules, the_lemmas), search rules, grind arith), other-made c.args.program.now.ast.now c.args.scope.now c.args.inner.now c.requires)

pub typed_stmt-typed_if-requires : goal.typed_stmt-typed_if-requires
typed_stmt-typed_if-requires t c = (first_of (search (rules, the_lemmas), search rules, grind arith), stmt-if-made c.args.program.now.ast.now c.args.scope.now c.args.stmt.now c.in-If.inner c.in-If.is c.requires)

pub typed_stmt-typed_block-requires : goal.typed_stmt-typed_block-requires
typed_stmt-typed_block-requires t c =
    (first_of (search (rules, the_lemmas), search rules, grind arith), body-made c.args.program.now.ast.now c.args.scope.now c.args.stmt.now c.in-While.at c.in-While.attributes c.in-While.guard c.in-While.invariants c.in-While.body c.as_slice-in-While-2.result.now c.in-While.is c.as_slice-in-While-2.ensures c.requires)
