-- The faults and the expressions of a statement, by its outermost node.
use Rattle.std.proofs.Common.{◌≡◌, ℕ, List, Option, map, rules}
use Rattle.bpl_ast.specs.declared.expr.Expr.{Expr}
use Rattle.bpl_ast.specs.declared.name.Attribute.{Attribute}
use Rattle.bpl_ast.specs.declared.name.Name.{Name}
use Rattle.bpl_ast.specs.declared.stmt.Else.TheFolds.{fold-If, the_lemmas}
use Rattle.bpl_ast.specs.declared.stmt.Else.TheOpen.{Stmt-F}
use Rattle.bpl_ast.specs.declared.stmt.Guard.{Guard}
use Rattle.bpl_ast.specs.declared.stmt.If.{If}
use Rattle.bpl_ast.specs.declared.stmt.Invariant.{Invariant}
use Rattle.bpl_ast.specs.declared.stmt.Stmt.{Stmt}
use Rattle.bpl_ast.specs.declared.stmt.Stmt.TheVariants as stmts
use Rattle.bpl_ast.specs.declared.stmt.Target.{Target}
use Rattle.type_pass.specs.declared.tables.Scope.{Scope}
use Rattle.type_pass.specs.declared.tables.Tables.{Tables}
use Rattle.type_pass.specs.Commands as commands
use Rattle.type_pass.specs.Commands.{stmt_faults, if_faults}
use Rattle.type_pass.specs.Passes.{exprs_of, else_exprs, stmt_exprs, if_exprs}

-- the same of an `if`
abbrev pub exprs_of_if : If → List Expr
exprs_of_if = fold-If (List Expr) (List Expr) (List Expr) else_exprs stmt_exprs if_exprs

pub faults-label : (t : Tables) (s : Scope) (n : Name) → stmt_faults t s (stmts.Label n) ≡ commands.stmt_node t s (Stmt-F.Label n)
unfolding stmt_faults
faults-label t s n = search (rules, the_lemmas)

pub faults-assert : (t : Tables) (s : Scope) (at : ℕ) (attributes : List Attribute) (c : Expr) → stmt_faults t s (stmts.Assert at attributes c) ≡ commands.stmt_node t s (Stmt-F.Assert at attributes c)
unfolding stmt_faults
faults-assert t s at attributes c = search (rules, the_lemmas)

pub faults-assume : (t : Tables) (s : Scope) (at : ℕ) (attributes : List Attribute) (c : Expr) → stmt_faults t s (stmts.Assume at attributes c) ≡ commands.stmt_node t s (Stmt-F.Assume at attributes c)
unfolding stmt_faults
faults-assume t s at attributes c = search (rules, the_lemmas)

pub faults-havoc : (t : Tables) (s : Scope) (at : ℕ) (attributes : List Attribute) (names : List Name) → stmt_faults t s (stmts.Havoc at attributes names) ≡ commands.stmt_node t s (Stmt-F.Havoc at attributes names)
unfolding stmt_faults
faults-havoc t s at attributes names = search (rules, the_lemmas)

pub faults-goto : (t : Tables) (s : Scope) (at : ℕ) (attributes : List Attribute) (labels : List Name) → stmt_faults t s (stmts.Goto at attributes labels) ≡ commands.stmt_node t s (Stmt-F.Goto at attributes labels)
unfolding stmt_faults
faults-goto t s at attributes labels = search (rules, the_lemmas)

pub faults-return : (t : Tables) (s : Scope) (at : ℕ) (attributes : List Attribute) → stmt_faults t s (stmts.Return at attributes) ≡ commands.stmt_node t s (Stmt-F.Return at attributes)
unfolding stmt_faults
faults-return t s at attributes = search (rules, the_lemmas)

pub faults-break : (t : Tables) (s : Scope) (at : ℕ) (attributes : List Attribute) (label : Option Name) → stmt_faults t s (stmts.Break at attributes label) ≡ commands.stmt_node t s (Stmt-F.Break at attributes label)
unfolding stmt_faults
faults-break t s at attributes label = search (rules, the_lemmas)

pub faults-assign : (t : Tables) (s : Scope) (at : ℕ) (targets : List Target) (values : List Expr) → stmt_faults t s (stmts.Assign at targets values) ≡ commands.stmt_node t s (Stmt-F.Assign at targets values)
unfolding stmt_faults
faults-assign t s at targets values = search (rules, the_lemmas)

pub faults-call : (t : Tables) (s : Scope) (at : ℕ) (attributes : List Attribute) (outs : List Name) (procedure : Name) (arguments : List Expr) → stmt_faults t s (stmts.Call at attributes outs procedure arguments) ≡ commands.stmt_node t s (Stmt-F.Call at attributes outs procedure arguments)
unfolding stmt_faults
faults-call t s at attributes outs procedure arguments = search (rules, the_lemmas)

pub faults-if : (t : Tables) (s : Scope) (inner : If) → stmt_faults t s (stmts.If inner) ≡ commands.stmt_node t s (Stmt-F.Stmt::If (if_faults t s inner))
unfolding stmt_faults
faults-if t s inner = search (rules, the_lemmas)

pub faults-while : (t : Tables) (s : Scope) (at : ℕ) (attributes : List Attribute) (guard : Guard) (invariants : List Invariant) (body : List Stmt) → stmt_faults t s (stmts.While at attributes guard invariants body) ≡ commands.stmt_node t s (Stmt-F.While at attributes guard invariants (map (stmt_faults t s) body))
unfolding stmt_faults
faults-while t s at attributes guard invariants body = search (rules, the_lemmas)

pub exprs-label : (n : Name) → exprs_of (stmts.Label n) ≡ stmt_exprs (Stmt-F.Label n)
unfolding exprs_of
exprs-label n = search (rules, the_lemmas)

pub exprs-assert : (at : ℕ) (attributes : List Attribute) (c : Expr) → exprs_of (stmts.Assert at attributes c) ≡ stmt_exprs (Stmt-F.Assert at attributes c)
unfolding exprs_of
exprs-assert at attributes c = search (rules, the_lemmas)

pub exprs-assume : (at : ℕ) (attributes : List Attribute) (c : Expr) → exprs_of (stmts.Assume at attributes c) ≡ stmt_exprs (Stmt-F.Assume at attributes c)
unfolding exprs_of
exprs-assume at attributes c = search (rules, the_lemmas)

pub exprs-havoc : (at : ℕ) (attributes : List Attribute) (names : List Name) → exprs_of (stmts.Havoc at attributes names) ≡ stmt_exprs (Stmt-F.Havoc at attributes names)
unfolding exprs_of
exprs-havoc at attributes names = search (rules, the_lemmas)

pub exprs-goto : (at : ℕ) (attributes : List Attribute) (labels : List Name) → exprs_of (stmts.Goto at attributes labels) ≡ stmt_exprs (Stmt-F.Goto at attributes labels)
unfolding exprs_of
exprs-goto at attributes labels = search (rules, the_lemmas)

pub exprs-return : (at : ℕ) (attributes : List Attribute) → exprs_of (stmts.Return at attributes) ≡ stmt_exprs (Stmt-F.Return at attributes)
unfolding exprs_of
exprs-return at attributes = search (rules, the_lemmas)

pub exprs-break : (at : ℕ) (attributes : List Attribute) (label : Option Name) → exprs_of (stmts.Break at attributes label) ≡ stmt_exprs (Stmt-F.Break at attributes label)
unfolding exprs_of
exprs-break at attributes label = search (rules, the_lemmas)

pub exprs-assign : (at : ℕ) (targets : List Target) (values : List Expr) → exprs_of (stmts.Assign at targets values) ≡ stmt_exprs (Stmt-F.Assign at targets values)
unfolding exprs_of
exprs-assign at targets values = search (rules, the_lemmas)

pub exprs-call : (at : ℕ) (attributes : List Attribute) (outs : List Name) (procedure : Name) (arguments : List Expr) → exprs_of (stmts.Call at attributes outs procedure arguments) ≡ stmt_exprs (Stmt-F.Call at attributes outs procedure arguments)
unfolding exprs_of
exprs-call at attributes outs procedure arguments = search (rules, the_lemmas)

pub exprs-if : (inner : If) → exprs_of (stmts.If inner) ≡ stmt_exprs (Stmt-F.Stmt::If (exprs_of_if inner))
unfolding exprs_of
exprs-if inner = search (rules, the_lemmas)

pub exprs-while : (at : ℕ) (attributes : List Attribute) (guard : Guard) (invariants : List Invariant) (body : List Stmt) → exprs_of (stmts.While at attributes guard invariants body) ≡ stmt_exprs (Stmt-F.While at attributes guard invariants (map (exprs_of) body))
unfolding exprs_of
exprs-while at attributes guard invariants body = search (rules, the_lemmas)
