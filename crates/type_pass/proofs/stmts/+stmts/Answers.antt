use Rattle.std.proofs.Common.{◌≡◌, Option, subst}
use Rattle.std.specs.Prelude.{IfOk}
use Rattle.type_pass.specs.declared.fault.TypeFault.{TypeFault}
use Rattle.type_pass.specs.Commands.{stmt_faults}
use Rattle.type_pass.proofs.CommandLaws.{flat-turn, if-steps, while-steps, else-steps}
use Rattle.type_pass.proofs.stmts.+stmts.Goals as goal

pub else_fault-returns-in-Block : goal.else_fault-returns-in-Block
else_fault-returns-in-Block t c =
    subst (λ (v : Option TypeFault). IfOk c.stmts_fault.result (λ answer. answer ≡ v)) (else-steps c.args.known.now c.args.scope.now c.args.other.now c.in-Block.body c.as_slice.result.now c.args.found c.in-Block.is c.as_slice.ensures) c.stmts_fault.ensures

pub if_fault-returns : goal.if_fault-returns
if_fault-returns t c =
    subst (λ (v : Option TypeFault). IfOk c.else_fault.result (λ answer. answer ≡ v))
    (if-steps c.args.known.now c.args.scope.now c.args.inner.now c.args.found c.guard_fault-guarded.result c.in_ok-so_far.so_far c.as_slice.result.now c.as_slice.ensures c.guard_fault-guarded.ensures c.in_ok-so_far.ensures)
    c.else_fault.ensures

pub stmt_fault-returns-in-While : goal.stmt_fault-returns-in-While
stmt_fault-returns-in-While t c =
    subst (λ (v : Option TypeFault). IfOk c.stmts_fault.result (λ answer. answer ≡ v))
    (while-steps c.args.known.now c.args.scope.now c.args.stmt.now c.in-While.at c.in-While.attributes c.in-While.guard c.in-While.invariants c.as_slice-in-While.result.now c.in-While.body c.as_slice-in-While-2.result.now
    c.args.found c.guard_fault-guarded.result c.invariants_fault-so_far.result c.in-While.is c.as_slice-in-While.ensures c.as_slice-in-While-2.ensures c.guard_fault-guarded.ensures c.invariants_fault-so_far.ensures)
    c.stmts_fault.ensures

pub stmts_fault-loop-stmt-preserved : goal.stmts_fault-loop-stmt-preserved
stmts_fault-loop-stmt-preserved t c =
    flat-turn (stmt_faults c.args.known.now c.args.scope.now) c.args.stmts.now c.loop-stmt.stmt-index c.stmt-item.result c.loop-stmt.so_far c.in_ok-so_far.so_far _
    c.loop-stmt-test.true c.stmt-item.is c.in_ok-so_far.ensures c.loop-stmt.invariant
