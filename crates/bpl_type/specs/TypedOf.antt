-- The typed program of a tree that has no fault.
use Rattle.std.specs.Prelude.{ℕ, ◌+◌, Bool, true, false, List, [], ◌∷◌, map, flat_map, find, Option, None, Some, option_map}
use Rattle.std.specs.Str.{bytes_eq}
use Rattle.bpl_ast.specs.declared.decl.Ast.{Ast}
use Rattle.bpl_ast.specs.declared.decl.Body.{Body}
use Rattle.bpl_ast.specs.declared.decl.Function.{Function}
use Rattle.bpl_ast.specs.declared.decl.Heads.{Heads}
use Rattle.bpl_ast.specs.declared.decl.Implementation.{Implementation}
use Rattle.bpl_ast.specs.declared.decl.Procedure.{Procedure}
use Rattle.bpl_ast.specs.declared.expr.Expr.{Expr}
use Rattle.bpl_ast.specs.declared.name.Name.{Name}
use Rattle.bpl_ast.specs.declared.stmt.Else.TheFolds.{fold-Stmt}
use Rattle.bpl_ast.specs.declared.stmt.Else.TheOpen.{Else-F, Stmt-F, If-F}
use Rattle.bpl_ast.specs.declared.stmt.Guard.{Guard}
use Rattle.bpl_ast.specs.declared.stmt.Guard.TheVariants.{Any, Condition}
use Rattle.bpl_ast.specs.declared.stmt.Invariant.{Invariant}
use Rattle.bpl_ast.specs.declared.stmt.Stmt.{Stmt}
use Rattle.bpl_ast.specs.declared.stmt.Target.{Target}
use Rattle.hy_val.specs.declared.expr.ExprNode.{ExprNode}
use Rattle.hy_val.specs.declared.expr.Var.{Var}
use Rattle.hy_val.specs.declared.expr.Var.TheVariants.{Local}
use Rattle.hy_val.specs.declared.sort.Sort.{Sort}
use Rattle.type_pass.specs.declared.tables.Scope.{Scope}
use Rattle.type_pass.specs.declared.tables.Tables.{Tables}
use Rattle.bpl_type.specs.declared.typed.Typed.{Typed}
use Rattle.bpl_type.specs.declared.typed.TypedBody.{TypedBody}
use Rattle.bpl_type.specs.declared.typed.TypedInvariant.{TypedInvariant}
use Rattle.bpl_type.specs.declared.typed.TypedProc.{TypedProc}
use Rattle.bpl_type.specs.declared.typed.TypedStmt.{TypedStmt}
use Rattle.bpl_type.specs.declared.typed.TypedStmt.TheVariants as typed
use Rattle.type_pass.specs.Declarations.{synonyms, functions, procedures, implementations, axioms, unique_flags, in_parameters, in_body}
use Rattle.type_pass.specs.Replaced.{read_if, term_of}
use Rattle.type_pass.specs.Scopes.{tables_of, named_of, axiom_scope, body_scope, find_name, body_number}
use Rattle.type_pass.specs.Terms.{Term, store, nodes_of}

-- ---- expressions and names

-- the nodes of an expression
abbrev pub expr_of : Tables → List Function → Scope → Expr → List ExprNode
expr_of tables fs scope x = nodes_of (term_of tables fs scope x)

abbrev pub var_if : Option (Var × Sort) → Var
var_if None = Local 0
var_if (Some seen) = seen.0

abbrev pub var_of : Tables → Scope → Name → Var
var_of tables scope name = var_if (find_name tables scope name.text)

-- `m := e`, and for `m[i] := e` the map with e at i
abbrev pub assigned : Option (Var × Sort) → Option Term → Term → Term
assigned seen None value = value
assigned seen (Some index) value = store (read_if seen) index value

abbrev pub pair_of : Tables → List Function → Scope → Target → Expr → Var × List ExprNode
pair_of tables fs scope t value =
    (var_of tables scope t.name, nodes_of (assigned (find_name tables scope t.name.text) (option_map (term_of tables fs scope) t.index) (term_of tables fs scope value)))

abbrev pub pairs_of : Tables → List Function → Scope → List Target → List Expr → List (Var × List ExprNode)
pairs_of tables fs scope [] values = []
pairs_of tables fs scope (t ∷ ts) [] = []
pairs_of tables fs scope (t ∷ ts) (v ∷ vs) = pair_of tables fs scope t v ∷ pairs_of tables fs scope ts vs

-- ---- statements

abbrev pub guard_of : Tables → List Function → Scope → Guard → Option (List ExprNode)
guard_of tables fs scope (Any at) = None
guard_of tables fs scope (Condition condition) = Some (expr_of tables fs scope condition)

abbrev pub invariant_of : Tables → List Function → Scope → Invariant → TypedInvariant
invariant_of tables fs scope i = record { free = i.free; condition = expr_of tables fs scope i.condition }

-- what stands after `else`; an `else if` is a block of one statement
abbrev pub else_node : Else-F (List TypedStmt) TypedStmt TypedStmt → List TypedStmt
else_node Else-F.Absent = []
else_node (Else-F.Else::If inner) = inner ∷ []
else_node (Else-F.Block body) = body

abbrev pub if_node : Tables → List Function → Scope → If-F (List TypedStmt) TypedStmt TypedStmt → TypedStmt
if_node tables fs scope s = typed.If (guard_of tables fs scope s.guard) s.then s.other

abbrev pub stmt_node : Tables → List Function → Scope → Stmt-F (List TypedStmt) TypedStmt TypedStmt → TypedStmt
stmt_node tables fs scope (Stmt-F.Label name) = typed.Label name
stmt_node tables fs scope (Stmt-F.Assert at attributes condition) = typed.Assert (expr_of tables fs scope condition)
stmt_node tables fs scope (Stmt-F.Assume at attributes condition) = typed.Assume (expr_of tables fs scope condition)
stmt_node tables fs scope (Stmt-F.Havoc at attributes names) = typed.Havoc (map (var_of tables scope) names)
stmt_node tables fs scope (Stmt-F.Goto at attributes labels) = typed.Goto labels
stmt_node tables fs scope (Stmt-F.Return at attributes) = typed.Return
stmt_node tables fs scope (Stmt-F.Break at attributes label) = typed.Break at label
stmt_node tables fs scope (Stmt-F.Assign at targets values) = typed.Assign (pairs_of tables fs scope targets values)
stmt_node tables fs scope (Stmt-F.Call at attributes outs procedure arguments) =
    typed.Call (body_number tables procedure.text) (map (expr_of tables fs scope) arguments) (map (var_of tables scope) outs)
stmt_node tables fs scope (Stmt-F.Stmt::If inner) = inner
stmt_node tables fs scope (Stmt-F.While at attributes guard invariants body) =
    typed.While (guard_of tables fs scope guard) (map (invariant_of tables fs scope) invariants) body

unfoldable pub stmt_of : Tables → List Function → Scope → Stmt → TypedStmt
stmt_of tables fs scope = fold-Stmt (List TypedStmt) TypedStmt TypedStmt else_node (stmt_node tables fs scope) (if_node tables fs scope)

-- ---- procedures

-- heads, and the body that belongs to them
pub record Formed : Type 0 where
  pub heads : Heads
  pub body : Option Body

abbrev pub formed_by : Heads → Option Implementation → Formed
formed_by heads None = record { heads = heads; body = None }
formed_by heads (Some i) = record { heads = i.heads; body = Some i.body }

abbrev pub formed_with : Ast → Procedure → Option Body → Formed
formed_with ast p (Some body) = record { heads = p.heads; body = Some body }
formed_with ast p None = formed_by p.heads (find (λ i. bytes_eq p.name.text i.name.text) (implementations ast))

-- the procedure's own heads and body; or those of its implementation; or its heads alone
abbrev pub formed : Ast → Procedure → Formed
formed ast p = formed_with ast p p.body

abbrev pub body_of : Ast → Heads → Body → TypedBody
body_of ast heads body = record { locals = map (named_of (synonyms ast)) (in_body body); statements = map (stmt_of (tables_of ast) (functions ast) (body_scope (synonyms ast) heads body)) body.statements }

abbrev pub formed_proc : Ast → List ℕ → Formed → TypedProc
formed_proc ast name f = record { name = name; ins = map (named_of (synonyms ast)) (flat_map in_parameters f.heads.ins); outs = map (named_of (synonyms ast)) (flat_map in_parameters f.heads.outs); body = option_map (body_of ast f.heads) f.body }

abbrev pub proc_of : Ast → Procedure → TypedProc
proc_of ast p = formed_proc ast p.name.text (formed ast p)

-- ---- programs

-- the places of the flags that are set, where the first has this number
abbrev pub places_from : ℕ → List Bool → List ℕ
places_from n [] = []
places_from n (true ∷ flags) = n ∷ places_from (n + 1) flags
places_from n (false ∷ flags) = places_from (n + 1) flags

abbrev pub typed_of : Ast → Typed
typed_of ast = record { consts = (tables_of ast).consts; uniques = places_from 0 (unique_flags ast); axioms = map (λ a. expr_of (tables_of ast) (functions ast) axiom_scope a.condition) (axioms ast); globals = (tables_of ast).globals; procs = map (proc_of ast) (procedures ast) }
