-- Statements by the outermost node, without offsets.
use Rattle.std.proofs.Common.{◌≡◌, ℕ, List, map, Option, rules}
use Rattle.std.specs.Prelude.{option_map}
use Rattle.bpl_ast.specs.Alike.{bare_name, bare_attribute, bare_expr, bare_guard, bare_target, bare_invariant, bare_stmt, bare_if, bare_else}
use Rattle.bpl_ast.specs.declared.expr.Expr.{Expr}
use Rattle.bpl_ast.specs.declared.name.Attribute.{Attribute}
use Rattle.bpl_ast.specs.declared.name.Name.{Name}
use Rattle.bpl_ast.specs.declared.stmt.Else.TheFolds.{the_lemmas}
use Rattle.bpl_ast.specs.declared.stmt.Else.TheVariants as elses
use Rattle.bpl_ast.specs.declared.stmt.Guard.{Guard}
use Rattle.bpl_ast.specs.declared.stmt.If.{If}
use Rattle.bpl_ast.specs.declared.stmt.Invariant.{Invariant}
use Rattle.bpl_ast.specs.declared.stmt.Stmt.{Stmt}
use Rattle.bpl_ast.specs.declared.stmt.Stmt.TheVariants as stmts
use Rattle.bpl_ast.specs.declared.stmt.Target.{Target}

pub bare-label : (n : Name) → bare_stmt (stmts.Label n) ≡ stmts.Label (bare_name n)
unfolding bare_stmt bare_if
bare-label n = search (rules, the_lemmas)

pub bare-assert : (at : ℕ) (xs : List Attribute) (x : Expr) → bare_stmt (stmts.Assert at xs x) ≡ stmts.Assert 0 (map bare_attribute xs) (bare_expr x)
unfolding bare_stmt bare_if
bare-assert at xs x = search (rules, the_lemmas)

pub bare-assume : (at : ℕ) (xs : List Attribute) (x : Expr) → bare_stmt (stmts.Assume at xs x) ≡ stmts.Assume 0 (map bare_attribute xs) (bare_expr x)
unfolding bare_stmt bare_if
bare-assume at xs x = search (rules, the_lemmas)

pub bare-havoc : (at : ℕ) (xs : List Attribute) (ns : List Name) → bare_stmt (stmts.Havoc at xs ns) ≡ stmts.Havoc 0 (map bare_attribute xs) (map bare_name ns)
unfolding bare_stmt bare_if
bare-havoc at xs ns = search (rules, the_lemmas)

pub bare-goto : (at : ℕ) (xs : List Attribute) (ns : List Name) → bare_stmt (stmts.Goto at xs ns) ≡ stmts.Goto 0 (map bare_attribute xs) (map bare_name ns)
unfolding bare_stmt bare_if
bare-goto at xs ns = search (rules, the_lemmas)

pub bare-return : (at : ℕ) (xs : List Attribute) → bare_stmt (stmts.Return at xs) ≡ stmts.Return 0 (map bare_attribute xs)
unfolding bare_stmt bare_if
bare-return at xs = search (rules, the_lemmas)

pub bare-break : (at : ℕ) (xs : List Attribute) (o : Option Name) → bare_stmt (stmts.Break at xs o) ≡ stmts.Break 0 (map bare_attribute xs) (option_map bare_name o)
unfolding bare_stmt bare_if
bare-break at xs o = search (rules, the_lemmas)

pub bare-assign : (at : ℕ) (ts : List Target) (xs : List Expr) → bare_stmt (stmts.Assign at ts xs) ≡ stmts.Assign 0 (map bare_target ts) (map bare_expr xs)
unfolding bare_stmt bare_if
bare-assign at ts xs = search (rules, the_lemmas)

pub bare-call : (at : ℕ) (xs : List Attribute) (ns : List Name) (p : Name) (args : List Expr) → bare_stmt (stmts.Call at xs ns p args) ≡ stmts.Call 0 (map bare_attribute xs) (map bare_name ns) (bare_name p) (map bare_expr args)
unfolding bare_stmt bare_if
bare-call at xs ns p args = search (rules, the_lemmas)

pub bare-if : (i : If) → bare_stmt (stmts.If i) ≡ stmts.If (bare_if i)
unfolding bare_stmt bare_if
bare-if i = search (rules, the_lemmas)

pub bare-while : (at : ℕ) (xs : List Attribute) (g : Guard) (is : List Invariant) (body : List Stmt) → bare_stmt (stmts.While at xs g is body) ≡ stmts.While 0 (map bare_attribute xs) (bare_guard g) (map bare_invariant is) (map bare_stmt body)
unfolding bare_stmt bare_if
bare-while at xs g is body = search (rules, the_lemmas)

pub bare-absent : bare_else elses.Absent ≡ elses.Absent
unfolding bare_else
bare-absent = search (rules, the_lemmas)

pub bare-else_if : (i : If) → bare_else (elses.If i) ≡ elses.If (bare_if i)
unfolding bare_else bare_if
bare-else_if i = search (rules, the_lemmas)

pub bare-else_block : (body : List Stmt) → bare_else (elses.Block body) ≡ elses.Block (map bare_stmt body)
unfolding bare_else bare_stmt
bare-else_block body = search (rules, the_lemmas)

pub bare-if_is : (i : If) → bare_if i ≡ record { at = 0; attributes = map bare_attribute i.attributes; guard = bare_guard i.guard; then = map bare_stmt i.then; other = bare_else i.other }
unfolding bare_if bare_stmt bare_else
bare-if_is i = search (rules, the_lemmas)
