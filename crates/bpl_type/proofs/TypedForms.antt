-- The typed form of a statement, by its outermost node.
use Rattle.std.proofs.Common.{◌≡◌, ℕ, List, Option, map, rules}
use Rattle.bpl_ast.specs.declared.decl.Function.{Function}
use Rattle.bpl_ast.specs.declared.expr.Expr.{Expr}
use Rattle.bpl_ast.specs.declared.name.Attribute.{Attribute}
use Rattle.bpl_ast.specs.declared.name.Name.{Name}
use Rattle.bpl_ast.specs.declared.stmt.Else.TheFolds.{fold-If, the_lemmas}
use Rattle.bpl_ast.specs.declared.stmt.Else.TheOpen.{Stmt-F}
use Rattle.bpl_ast.specs.declared.stmt.Guard.{Guard}
use Rattle.bpl_ast.specs.declared.stmt.If.{If}
use Rattle.bpl_ast.specs.declared.stmt.Invariant.{Invariant}
use Rattle.bpl_ast.specs.declared.stmt.Stmt.{Stmt}
use Rattle.bpl_ast.specs.declared.stmt.Stmt.TheVariants as stmts
use Rattle.bpl_ast.specs.declared.stmt.Target.{Target}
use Rattle.type_pass.specs.declared.tables.Scope.{Scope}
use Rattle.type_pass.specs.declared.tables.Tables.{Tables}
use Rattle.bpl_type.specs.declared.typed.TypedStmt.{TypedStmt}
use Rattle.bpl_type.specs.TypedOf as forms
use Rattle.bpl_type.specs.TypedOf.{stmt_of}

abbrev pub if_of : Tables → List Function → Scope → If → TypedStmt
if_of t fs s = fold-If (List TypedStmt) TypedStmt TypedStmt forms.else_node (forms.stmt_node t fs s) (forms.if_node t fs s)

pub typed-label : (t : Tables) (fs : List Function) (s : Scope) (n : Name) → stmt_of t fs s (stmts.Label n) ≡ forms.stmt_node t fs s (Stmt-F.Label n)
unfolding stmt_of
typed-label t fs s n = search (rules, the_lemmas)

pub typed-assert : (t : Tables) (fs : List Function) (s : Scope) (at : ℕ) (attributes : List Attribute) (c : Expr) → stmt_of t fs s (stmts.Assert at attributes c) ≡ forms.stmt_node t fs s (Stmt-F.Assert at attributes c)
unfolding stmt_of
typed-assert t fs s at attributes c = search (rules, the_lemmas)

pub typed-assume : (t : Tables) (fs : List Function) (s : Scope) (at : ℕ) (attributes : List Attribute) (c : Expr) → stmt_of t fs s (stmts.Assume at attributes c) ≡ forms.stmt_node t fs s (Stmt-F.Assume at attributes c)
unfolding stmt_of
typed-assume t fs s at attributes c = search (rules, the_lemmas)

pub typed-havoc : (t : Tables) (fs : List Function) (s : Scope) (at : ℕ) (attributes : List Attribute) (names : List Name) → stmt_of t fs s (stmts.Havoc at attributes names) ≡ forms.stmt_node t fs s (Stmt-F.Havoc at attributes names)
unfolding stmt_of
typed-havoc t fs s at attributes names = search (rules, the_lemmas)

pub typed-goto : (t : Tables) (fs : List Function) (s : Scope) (at : ℕ) (attributes : List Attribute) (labels : List Name) → stmt_of t fs s (stmts.Goto at attributes labels) ≡ forms.stmt_node t fs s (Stmt-F.Goto at attributes labels)
unfolding stmt_of
typed-goto t fs s at attributes labels = search (rules, the_lemmas)

pub typed-return : (t : Tables) (fs : List Function) (s : Scope) (at : ℕ) (attributes : List Attribute) → stmt_of t fs s (stmts.Return at attributes) ≡ forms.stmt_node t fs s (Stmt-F.Return at attributes)
unfolding stmt_of
typed-return t fs s at attributes = search (rules, the_lemmas)

pub typed-break : (t : Tables) (fs : List Function) (s : Scope) (at : ℕ) (attributes : List Attribute) (label : Option Name) → stmt_of t fs s (stmts.Break at attributes label) ≡ forms.stmt_node t fs s (Stmt-F.Break at attributes label)
unfolding stmt_of
typed-break t fs s at attributes label = search (rules, the_lemmas)

pub typed-assign : (t : Tables) (fs : List Function) (s : Scope) (at : ℕ) (targets : List Target) (values : List Expr) → stmt_of t fs s (stmts.Assign at targets values) ≡ forms.stmt_node t fs s (Stmt-F.Assign at targets values)
unfolding stmt_of
typed-assign t fs s at targets values = search (rules, the_lemmas)

pub typed-call : (t : Tables) (fs : List Function) (s : Scope) (at : ℕ) (attributes : List Attribute) (outs : List Name) (procedure : Name) (arguments : List Expr) → stmt_of t fs s (stmts.Call at attributes outs procedure arguments) ≡ forms.stmt_node t fs s (Stmt-F.Call at attributes outs procedure arguments)
unfolding stmt_of
typed-call t fs s at attributes outs procedure arguments = search (rules, the_lemmas)

pub typed-if : (t : Tables) (fs : List Function) (s : Scope) (inner : If) → stmt_of t fs s (stmts.If inner) ≡ forms.stmt_node t fs s (Stmt-F.Stmt::If (if_of t fs s inner))
unfolding stmt_of
typed-if t fs s inner = search (rules, the_lemmas)

pub typed-while : (t : Tables) (fs : List Function) (s : Scope) (at : ℕ) (attributes : List Attribute) (guard : Guard) (invariants : List Invariant) (body : List Stmt) → stmt_of t fs s (stmts.While at attributes guard invariants body) ≡ forms.stmt_node t fs s (Stmt-F.While at attributes guard invariants (map (stmt_of t fs s) body))
unfolding stmt_of
typed-while t fs s at attributes guard invariants body = search (rules, the_lemmas)
