-- Statements that fit in some place.
use Rattle.std.specs.Prelude.{Bool, true, List, Option, None, Some, IsTrue}
use Rattle.std.specs.List.{list_all}
use Rattle.bpl_type.specs.WellTyped.{stmt_fits, proc_fits}
use Rattle.bpl_type.specs.declared.typed.Typed.{Typed}
use Rattle.bpl_type.specs.declared.typed.TypedProc.{TypedProc}
use Rattle.bpl_type.specs.declared.typed.TypedStmt.{TypedStmt}
use Rattle.hy_val.specs.declared.expr.ExprNode.{ExprNode}
use Rattle.hy_val.specs.declared.sort.ScalarKind.TheVariants.{Bool as BoolSort}
use Rattle.hy_val.specs.declared.sort.SortKind.TheVariants.{Scalar as ScalarSort}
use Rattle.hy_val.specs.Scope.{Scope, are_same, sort_of_expr}

pub record Fits (s : TypedStmt) : Type 0 where
  pub callees : List TypedProc
  pub scope : Scope
  pub fits : IsTrue (stmt_fits callees scope s)

pub record AllFit (ss : List TypedStmt) : Type 0 where
  pub callees : List TypedProc
  pub scope : Scope
  pub fits : IsTrue (list_all (stmt_fits callees scope) ss)

abbrev pub is_bool : List ExprNode → Bool
is_bool nodes = are_same (sort_of_expr nodes) (Some (ScalarSort BoolSort))

-- a bool, or `*`
abbrev pub is_guard : Option (List ExprNode) → Bool
is_guard None = true
is_guard (Some nodes) = is_bool nodes

-- procedures of a typed program
pub record ProcsFit (procs : List TypedProc) : Type 0 where
  pub typed : Typed
  pub fits : IsTrue (list_all (proc_fits typed) procs)
