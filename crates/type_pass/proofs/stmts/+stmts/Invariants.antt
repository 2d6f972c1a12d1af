use Rattle.std.proofs.Common.{◌≡◌, drop}
use Rattle.std.specs.Prelude.{flat_map}
use Rattle.type_pass.specs.Faults.{earlier, first}
use Rattle.type_pass.specs.Commands.{stmt_faults}
use Rattle.type_pass.proofs.stmts.+stmts.Given as goal

abbrev pub invariant-stmts_fault-loop-stmt : goal.invariant-stmts_fault-loop-stmt
invariant-stmts_fault-loop-stmt l = earlier l.so_far (first (flat_map (stmt_faults l.known l.scope) (drop l.stmt-index l.stmts))) ≡ earlier l.fn.found (first (flat_map (stmt_faults l.known l.scope) l.stmts))
