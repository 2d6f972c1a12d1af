-- Typed statements whose expressions are expressions, and the parts of a program.
use Rattle.std.specs.Prelude.{Bool, true, ◌&&◌, List, Option, None, Some}
use Rattle.std.specs.List.{list_all}
use Rattle.bpl_ast.specs.declared.decl.Ast.{Ast}
use Rattle.bpl_ast.specs.declared.expr.Expr.{Expr}
use Rattle.bpl_ast.specs.declared.stmt.Else.{Else}
use Rattle.bpl_ast.specs.declared.stmt.Else.TheFolds.{fold-If, fold-Else}
use Rattle.bpl_ast.specs.declared.stmt.If.{If}
use Rattle.bpl_ast.specs.declared.stmt.Stmt.{Stmt}
use Rattle.hy_val.specs.Exprs.{is_expr}
use Rattle.hy_val.specs.declared.expr.ExprNode.{ExprNode}
use Rattle.type_pass.specs.declared.tables.Scope.{Scope}
use Rattle.bpl_type.specs.declared.typed.TypedStmt.{TypedStmt}
use Rattle.bpl_type.specs.declared.typed.TypedStmt.TheFolds.{fold-TypedStmt}
use Rattle.bpl_type.specs.declared.typed.TypedStmt.TheOpen.{TypedStmt-F}
use Rattle.type_pass.specs.Declarations.{functions}
use Rattle.type_pass.specs.Scopes.{tables_of}
use Rattle.bpl_type.specs.TypedOf.{expr_of, stmt_of, else_node, stmt_node, if_node}

abbrev pub guard_is : Option (List ExprNode) → Bool
guard_is None = true
guard_is (Some condition) = is_expr condition

abbrev pub all_made : List Bool → Bool
all_made parts = list_all (λ b. b) parts

-- the expressions of a statement are expressions
abbrev pub made_node : TypedStmt-F Bool → Bool
made_node (TypedStmt-F.Label name) = true
made_node (TypedStmt-F.Assert condition) = is_expr condition
made_node (TypedStmt-F.Assume condition) = is_expr condition
made_node (TypedStmt-F.Havoc vars) = true
made_node (TypedStmt-F.Goto labels) = true
made_node TypedStmt-F.Return = true
made_node (TypedStmt-F.Break at label) = true
made_node (TypedStmt-F.Assign pairs) = list_all (λ p. is_expr p.1) pairs
made_node (TypedStmt-F.Call proc args outs) = list_all is_expr args
made_node (TypedStmt-F.If guard part other) = guard_is guard && (all_made part && all_made other)
made_node (TypedStmt-F.While guard invariants body) = guard_is guard && (list_all (λ i. is_expr i.condition) invariants && all_made body)

unfoldable pub is_made : TypedStmt → Bool
is_made = fold-TypedStmt Bool made_node

-- ---- the parts of a program

abbrev pub expr_in : Ast → Scope → Expr → List ExprNode
expr_in ast = expr_of (tables_of ast) (functions ast)

abbrev pub stmt_in : Ast → Scope → Stmt → TypedStmt
stmt_in ast = stmt_of (tables_of ast) (functions ast)

unfoldable pub if_in : Ast → Scope → If → TypedStmt
if_in ast scope = fold-If (List TypedStmt) TypedStmt TypedStmt else_node (stmt_node (tables_of ast) (functions ast) scope) (if_node (tables_of ast) (functions ast) scope)

unfoldable pub else_in : Ast → Scope → Else → List TypedStmt
else_in ast scope = fold-Else (List TypedStmt) TypedStmt TypedStmt else_node (stmt_node (tables_of ast) (functions ast) scope) (if_node (tables_of ast) (functions ast) scope)
