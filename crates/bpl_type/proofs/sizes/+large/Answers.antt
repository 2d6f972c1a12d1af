use Rattle.std.proofs.Common.{◌≡◌, Option, subst}
use Rattle.std.specs.Prelude.{IfOk}
use Rattle.type_pass.specs.declared.fault.TypeFault.{TypeFault}
use Rattle.bpl_type.specs.Sizes.{heavy_stmt}
use Rattle.type_pass.proofs.CommandLaws.{flat-turn}
use Rattle.bpl_type.proofs.SizeLaws.{large-if, large-while, large-assign, large-block}
use Rattle.bpl_type.proofs.sizes.+large.Goals as goal

pub large_stmts-loop-stmt-preserved : goal.large_stmts-loop-stmt-preserved
large_stmts-loop-stmt-preserved t c =
    flat-turn (heavy_stmt c.args.counting.now) c.args.stmts.now c.loop-stmt.stmt-index c.stmt-item.result c.loop-stmt.so_far c.in_ok-so_far.so_far _
    c.loop-stmt-test.true c.stmt-item.is c.in_ok-so_far.ensures c.loop-stmt.invariant

pub large_else-returns-in-Block : goal.large_else-returns-in-Block
large_else-returns-in-Block t c =
    subst (λ (v : Option TypeFault). IfOk c.large_stmts.result (λ answer. answer ≡ v)) (large-block c.args.counting.now c.args.other.now c.in-Block.body c.as_slice.result.now c.args.found c.in-Block.is c.as_slice.ensures) c.large_stmts.ensures

pub large_if-returns : goal.large_if-returns
large_if-returns t c =
    subst (λ (v : Option TypeFault). IfOk c.large_else.result (λ answer. answer ≡ v))
    (large-if c.args.counting.now c.args.inner.now c.args.found c.in_ok-guarded.guarded c.in_ok-so_far.so_far c.as_slice.result.now c.as_slice.ensures c.in_ok-guarded.ensures c.in_ok-so_far.ensures)
    c.large_else.ensures

pub large_stmt-returns-in_ok-so_far-in-While : goal.large_stmt-returns-in_ok-so_far-in-While
large_stmt-returns-in_ok-so_far-in-While t c =
    subst (λ (v : Option TypeFault). IfOk c.large_stmts.result (λ answer. answer ≡ v))
    (large-while c.args.counting.now c.args.stmt.now c.in-While.at c.in-While.attributes c.in-While.guard c.in-While.invariants c.as_slice-in-While.result.now c.in-While.body c.as_slice-in-While-2.result.now
    c.args.found c.in_ok-guarded-in-While.guarded c.in_ok-so_far-in-While.so_far c.in-While.is c.as_slice-in-While.ensures c.as_slice-in-While-2.ensures c.in_ok-guarded-in-While.ensures c.in_ok-so_far-in-While.ensures)
    c.large_stmts.ensures

pub large_stmt-returns-in_ok-so_far-in-Assign : goal.large_stmt-returns-in_ok-so_far-in-Assign
large_stmt-returns-in_ok-so_far-in-Assign t c =
    subst (λ (v : Option TypeFault). IfOk c.large_exprs.result (λ answer. answer ≡ v))
    (large-assign c.args.counting.now c.args.stmt.now c.in-Assign.at c.in-Assign.targets c.as_slice.result.now c.in-Assign.values c.as_slice-in-Assign.result.now
    c.args.found c.in_ok-so_far-in-Assign.so_far c.in-Assign.is c.as_slice.ensures c.as_slice-in-Assign.ensures c.in_ok-so_far-in-Assign.ensures)
    c.large_exprs.ensures
