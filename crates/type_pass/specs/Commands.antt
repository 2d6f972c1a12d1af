-- The faults of statements: those of their expressions, and those of their names, targets and values.
use Rattle.std.specs.Prelude.{ℕ, Bool, not, ◌||◌, nat_eq, List, [], ◌∷◌, ◌++◌, length, map, flat_map, Option, None, Some, option_map, Ok, Err}
use Rattle.bpl_ast.specs.declared.expr.Expr.{Expr}
use Rattle.bpl_ast.specs.declared.name.Name.{Name}
use Rattle.bpl_ast.specs.declared.stmt.Else.{Else}
use Rattle.bpl_ast.specs.declared.stmt.Else.TheFolds.{fold-Stmt, fold-If, fold-Else}
use Rattle.bpl_ast.specs.declared.stmt.Else.TheOpen.{Else-F, Stmt-F, If-F}
use Rattle.bpl_ast.specs.declared.stmt.Guard.{Guard}
use Rattle.bpl_ast.specs.declared.stmt.Guard.TheVariants.{Any, Condition}
use Rattle.bpl_ast.specs.declared.stmt.If.{If}
use Rattle.bpl_ast.specs.declared.stmt.Stmt.{Stmt}
use Rattle.bpl_ast.specs.declared.stmt.Target.{Target}
use Rattle.bpl_ast.specs.declared.word.Word.TheVariants.{NoBody}
use Rattle.hy_val.specs.NodeSorts.{same_sort}
use Rattle.hy_val.specs.declared.expr.Var.{Var}
use Rattle.hy_val.specs.declared.sort.Sort.{Sort}
use Rattle.hy_val.specs.declared.sort.SortKind.TheVariants.{Scalar as ScalarSort, Map as MapSort}
use Rattle.type_pass.specs.declared.fault.TypeFault.{TypeFault}
use Rattle.type_pass.specs.declared.fault.TypeKind.TheVariants.{Unknown, Mismatch, Arity, NotAssignable, LeftOut}
use Rattle.type_pass.specs.declared.tables.Heading.{Heading}
use Rattle.type_pass.specs.declared.tables.Scope.{Scope}
use Rattle.type_pass.specs.declared.tables.Tables.{Tables}
use Rattle.type_pass.specs.ExprSorts.{Part, Checked, bool_sort, part}
use Rattle.type_pass.specs.Faults.{fault, told}
use Rattle.type_pass.specs.Names.{repeats}
use Rattle.type_pass.specs.Scopes.{find_name, is_assignable, procedure_named}

-- ---- values

-- Mismatch where another sort is asked for
abbrev pub sort_faults : Option Sort → ℕ → Sort → List TypeFault
sort_faults None at s = []
sort_faults (Some wanted) at s = told (not (same_sort s wanted)) at Mismatch

abbrev pub checked_faults : Option Sort → ℕ → Checked → List TypeFault
checked_faults wanted at (Ok s) = sort_faults wanted at s
checked_faults wanted at (Err f) = f ∷ []

-- the fault of a value in a place that asks for a sort, where it is known which
abbrev pub value_faults : Option Sort → Part → List TypeFault
value_faults wanted p = checked_faults wanted p.at p.sort

-- values in order, the first ones in places that ask for a sort
abbrev pub values_faults : List (Option Sort) → List Part → List TypeFault
values_faults wanted [] = []
values_faults [] (p ∷ ps) = value_faults None p ++ values_faults [] ps
values_faults (s ∷ wanted) (p ∷ ps) = value_faults s p ++ values_faults wanted ps

-- a condition is a bool
abbrev pub condition_faults : Tables → Scope → Expr → List TypeFault
condition_faults tables scope condition = value_faults (Some bool_sort) (part tables scope condition)

-- ---- targets

abbrev pub seen_faults : Scope → ℕ → Option (Var × Sort) → List TypeFault
seen_faults scope at None = fault at Unknown ∷ []
seen_faults scope at (Some seen) = told (not (is_assignable scope seen.0)) at NotAssignable

-- a name that changes
abbrev pub name_faults : Tables → Scope → Name → List TypeFault
name_faults tables scope name = seen_faults scope name.at (find_name tables scope name.text)

-- an index of a variable of this sort: Mismatch at the name that is no map's
abbrev pub index_of_faults : ℕ → Sort → Part → List TypeFault
index_of_faults at (ScalarSort s) index = fault at Mismatch ∷ value_faults None index
index_of_faults at (MapSort i e) index = value_faults (Some (ScalarSort i)) index

abbrev pub index_faults : ℕ → Option (Var × Sort) → Option Part → List TypeFault
index_faults at seen None = []
index_faults at None (Some index) = value_faults None index
index_faults at (Some seen) (Some index) = index_of_faults at seen.1 index

abbrev pub target_faults : Tables → Scope → Target → List TypeFault
target_faults tables scope t = name_faults tables scope t.name ++ index_faults t.name.at (find_name tables scope t.name.text) (option_map (part tables scope) t.index)

abbrev pub element : Sort → Option Sort
element (ScalarSort s) = None
element (MapSort index elem) = Some (ScalarSort elem)

-- the sort that a target's value is to have: that of the variable, or of the elements of the map
abbrev pub target_sort : Option (Var × Sort) → Option Expr → Option Sort
target_sort None index = None
target_sort (Some seen) None = Some seen.1
target_sort (Some seen) (Some index) = element seen.1

abbrev pub sort_of_target : Tables → Scope → Target → Option Sort
sort_of_target tables scope t = target_sort (find_name tables scope t.name.text) t.index

-- ---- assignments and calls

abbrev pub differ : ℕ → ℕ → Bool
differ m n = not (nat_eq m n)

abbrev pub assign_faults : Tables → Scope → ℕ → List Target → List Expr → List TypeFault
assign_faults tables scope at targets values =
    told (differ (length targets) (length values)) at Arity ++
    flat_map (target_faults tables scope) targets ++
    repeats (map (λ t. t.name) targets) ++
    values_faults (map (sort_of_target tables scope) targets) (map (part tables scope) values)

abbrev pub taken_faults : ℕ → Option (Var × Sort) → Sort → List TypeFault
taken_faults at None output = []
taken_faults at (Some seen) output = told (not (same_sort seen.1 output)) at Mismatch

-- each target has the sort of its out
abbrev pub outs_faults : Tables → Scope → List Sort → List Name → List TypeFault
outs_faults tables scope [] names = []
outs_faults tables scope (s ∷ ss) [] = []
outs_faults tables scope (s ∷ ss) (n ∷ ns) = taken_faults n.at (find_name tables scope n.text) s ++ outs_faults tables scope ss ns

abbrev pub called_faults : Tables → Scope → ℕ → Option Heading → List Name → List Part → List TypeFault
called_faults tables scope at None outs arguments = fault at Unknown ∷ values_faults [] arguments
called_faults tables scope at (Some p) outs arguments =
    told (differ (length p.ins) (length arguments) || differ (length p.outs) (length outs)) at Arity ++
    told (not p.has_body) at (LeftOut NoBody) ++
    outs_faults tables scope p.outs outs ++
    values_faults (map Some p.ins) arguments

abbrev pub call_faults : Tables → Scope → List Name → Name → List Expr → List TypeFault
call_faults tables scope outs procedure arguments =
    flat_map (name_faults tables scope) outs ++
    repeats outs ++
    called_faults tables scope procedure.at (procedure_named tables procedure.text) outs (map (part tables scope) arguments)

-- ---- statements

abbrev pub guard_faults : Tables → Scope → Guard → List TypeFault
guard_faults tables scope (Any at) = []
guard_faults tables scope (Condition condition) = condition_faults tables scope condition

abbrev pub all_faults : List (List TypeFault) → List TypeFault
all_faults faults = flat_map (λ fs. fs) faults

abbrev pub else_node : Else-F (List TypeFault) (List TypeFault) (List TypeFault) → List TypeFault
else_node Else-F.Absent = []
else_node (Else-F.Else::If inner) = inner
else_node (Else-F.Block body) = all_faults body

abbrev pub if_node : Tables → Scope → If-F (List TypeFault) (List TypeFault) (List TypeFault) → List TypeFault
if_node tables scope s = guard_faults tables scope s.guard ++ all_faults s.then ++ s.other

-- a goto without a label is in no text
abbrev pub stmt_node : Tables → Scope → Stmt-F (List TypeFault) (List TypeFault) (List TypeFault) → List TypeFault
stmt_node tables scope (Stmt-F.Label name) = []
stmt_node tables scope (Stmt-F.Assert at attributes condition) = condition_faults tables scope condition
stmt_node tables scope (Stmt-F.Assume at attributes condition) = condition_faults tables scope condition
stmt_node tables scope (Stmt-F.Havoc at attributes names) = flat_map (name_faults tables scope) names
stmt_node tables scope (Stmt-F.Goto at attributes labels) = told (nat_eq (length labels) 0) at Arity
stmt_node tables scope (Stmt-F.Return at attributes) = []
stmt_node tables scope (Stmt-F.Break at attributes label) = []
stmt_node tables scope (Stmt-F.Assign at targets values) = assign_faults tables scope at targets values
stmt_node tables scope (Stmt-F.Call at attributes outs procedure arguments) = call_faults tables scope outs procedure arguments
stmt_node tables scope (Stmt-F.Stmt::If inner) = inner
stmt_node tables scope (Stmt-F.While at attributes guard invariants body) =
    guard_faults tables scope guard ++ flat_map (λ i. condition_faults tables scope i.condition) invariants ++ all_faults body

unfoldable pub stmt_faults : Tables → Scope → Stmt → List TypeFault
stmt_faults tables scope = fold-Stmt (List TypeFault) (List TypeFault) (List TypeFault) else_node (stmt_node tables scope) (if_node tables scope)

-- the same of an `if`, and of what stands after `else`
abbrev pub if_faults : Tables → Scope → If → List TypeFault
if_faults tables scope = fold-If (List TypeFault) (List TypeFault) (List TypeFault) else_node (stmt_node tables scope) (if_node tables scope)

abbrev pub else_faults : Tables → Scope → Else → List TypeFault
else_faults tables scope = fold-Else (List TypeFault) (List TypeFault) (List TypeFault) else_node (stmt_node tables scope) (if_node tables scope)
