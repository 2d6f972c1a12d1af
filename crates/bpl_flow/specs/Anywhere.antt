-- Statements that fit in any place, as those of the tests do.
use Rattle.std.specs.Prelude.{List, IsTrue}
use Rattle.std.specs.List.{list_all}
use Rattle.bpl_type.specs.WellTyped.{stmt_fits}
use Rattle.bpl_type.specs.declared.typed.TypedProc.{TypedProc}
use Rattle.bpl_type.specs.declared.typed.TypedStmt.{TypedStmt}
use Rattle.hy_val.specs.Scope.{Scope}

pub record Anywhere (s : TypedStmt) : Type 0 where
  pub fits : (callees : List TypedProc) (scope : Scope) → IsTrue (stmt_fits callees scope s)

pub record AllAnywhere (ss : List TypedStmt) : Type 0 where
  pub fits : (callees : List TypedProc) (scope : Scope) → IsTrue (list_all (stmt_fits callees scope) ss)
