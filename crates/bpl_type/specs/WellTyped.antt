-- What a typed program keeps: its numbers name what is there, and its expressions have the sorts that their places ask for.
use Rattle.std.specs.Prelude.{◌&&◌, Bool, true, false, nat_lt, List, [], ◌++◌, length, map, filter, slice_get, Option, None, Some, is_some}
use Rattle.std.specs.List.{list_all}
use Rattle.type_pass.specs.declared.tables.Named.{Named as TypedName}
use Rattle.bpl_type.specs.declared.typed.Typed.{Typed}
use Rattle.bpl_type.specs.declared.typed.TypedBody.{TypedBody}
use Rattle.bpl_type.specs.declared.typed.TypedInvariant.{TypedInvariant}
use Rattle.bpl_type.specs.declared.typed.TypedProc.{TypedProc}
use Rattle.bpl_type.specs.declared.typed.TypedStmt.{TypedStmt}
use Rattle.bpl_type.specs.declared.typed.TypedStmt.TheOpen.{TypedStmt-F}
use Rattle.bpl_type.specs.declared.typed.TypedStmt.TheFolds.{fold-TypedStmt}
use Rattle.hy_val.specs.NodeSorts.{is_sort}
use Rattle.hy_val.specs.declared.expr.ExprNode.{ExprNode}
use Rattle.hy_val.specs.declared.expr.Var.{Var}
use Rattle.hy_val.specs.declared.sort.Sort.{Sort}
use Rattle.hy_val.specs.Scope.{Scope, is_condition, is_target, pair_fits}
use Rattle.src_prog.specs.Scope.{args_fit, targets_fit}
use Rattle.hy_val.specs.Scope.{ascend_from}
use Rattle.src_prog.specs.declared.proc.Named.{Named}

abbrev pub named : TypedName → Named
named n = record { name = n.name; sort = n.sort }

abbrev pub sorts_of : List TypedName → List Sort
sorts_of names = map (λ n. n.sort) names

-- widths are 1 to 64
abbrev pub have_sorts : List TypedName → Bool
have_sorts names = list_all (λ n. is_sort n.sort) names

-- ---- statements

-- a condition, or `*`
abbrev pub guard_fits : Scope → Option (List ExprNode) → Bool
guard_fits scope None = true
guard_fits scope (Some condition) = is_condition scope condition

abbrev pub invariant_fits : Scope → TypedInvariant → Bool
invariant_fits scope i = is_condition scope i.condition

-- the arguments and the targets of a call fit the heads of the procedure
abbrev pub callee_fits : Scope → Option TypedProc → List (List ExprNode) → List Var → Bool
callee_fits scope None args outs = false
callee_fits scope (Some p) args outs = args_fit scope (map named p.ins) args && targets_fit scope (map named p.outs) outs

abbrev pub all_fit : List Bool → Bool
all_fit parts = list_all (λ b. b) parts

-- a statement whose parts fit or not, among the procedures that have bodies
abbrev pub fits_node : List TypedProc → Scope → TypedStmt-F Bool → Bool
fits_node callees scope (TypedStmt-F.Label name) = true
fits_node callees scope (TypedStmt-F.Assert condition) = is_condition scope condition
fits_node callees scope (TypedStmt-F.Assume condition) = is_condition scope condition
fits_node callees scope (TypedStmt-F.Havoc vars) = list_all (is_target scope) vars
fits_node callees scope (TypedStmt-F.Goto labels) = nat_lt 0 (length labels)
fits_node callees scope TypedStmt-F.Return = true
fits_node callees scope (TypedStmt-F.Break at label) = true
fits_node callees scope (TypedStmt-F.Assign pairs) = list_all (pair_fits scope) pairs
fits_node callees scope (TypedStmt-F.Call proc args outs) = callee_fits scope (slice_get callees proc) args outs
fits_node callees scope (TypedStmt-F.If guard part other) = guard_fits scope guard && (all_fit part && all_fit other)
fits_node callees scope (TypedStmt-F.While guard invariants body) = guard_fits scope guard && (list_all (invariant_fits scope) invariants && all_fit body)

unfoldable pub stmt_fits : List TypedProc → Scope → TypedStmt → Bool
stmt_fits callees scope = fold-TypedStmt Bool (fits_node callees scope)

-- ---- programs

-- the procedures that have bodies, by number
abbrev pub callees_of : List TypedProc → List TypedProc
callees_of procs = filter (λ p. is_some p.body) procs

-- the constants alone
abbrev pub constant_scope : Typed → Scope
constant_scope typed = record { consts = sorts_of typed.consts; globals = []; locals = [] }

-- in a body the locals are the ins, the outs and the other variables, in this order
abbrev pub body_scope : Typed → TypedProc → TypedBody → Scope
body_scope typed p body = record { consts = sorts_of typed.consts; globals = sorts_of typed.globals; locals = sorts_of p.ins ++ (sorts_of p.outs ++ sorts_of body.locals) }

abbrev pub body_fits : Typed → TypedProc → Option TypedBody → Bool
body_fits typed p None = true
body_fits typed p (Some body) = have_sorts body.locals && list_all (stmt_fits (callees_of typed.procs) (body_scope typed p body)) body.statements

abbrev pub proc_fits : Typed → TypedProc → Bool
proc_fits typed p = (have_sorts p.ins && have_sorts p.outs) && body_fits typed p p.body

abbrev pub is_typed : Typed → Bool
is_typed typed =
    (have_sorts typed.consts && have_sorts typed.globals)
    && (ascend_from 0 (length typed.consts) typed.uniques
    && (list_all (is_condition (constant_scope typed)) typed.axioms
    && list_all (proc_fits typed) typed.procs))
