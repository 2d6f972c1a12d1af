-- Typed statements and whether their expressions are expressions, by the outermost node.
use Rattle.std.proofs.Common.{◌≡◌, ℕ, Bool, true, ◌&&◌, List, [], ◌∷◌, map, Option, refl, sym, ◌∙◌, ap, rules}
use Rattle.std.specs.List.{list_all}
use Rattle.bpl_ast.specs.declared.decl.Ast.{Ast}
use Rattle.bpl_ast.specs.declared.expr.Expr.{Expr}
use Rattle.bpl_ast.specs.declared.name.Attribute.{Attribute}
use Rattle.bpl_ast.specs.declared.name.Name.{Name}
use Rattle.bpl_ast.specs.declared.stmt.Else.{Else}
use Rattle.bpl_ast.specs.declared.stmt.Else.TheFolds.{fold_out-If}
use Rattle.bpl_ast.specs.declared.stmt.Else.TheFolds as trees
use Rattle.bpl_ast.specs.declared.stmt.Else.TheVariants as elses
use Rattle.bpl_ast.specs.declared.stmt.Guard.{Guard}
use Rattle.bpl_ast.specs.declared.stmt.If.{If, out-If}
use Rattle.bpl_ast.specs.declared.stmt.Invariant.{Invariant}
use Rattle.bpl_ast.specs.declared.stmt.Stmt.{Stmt}
use Rattle.bpl_ast.specs.declared.stmt.Stmt.TheVariants as stmts
use Rattle.bpl_ast.specs.declared.stmt.Target.{Target}
use Rattle.hy_val.specs.Exprs.{is_expr}
use Rattle.hy_val.specs.declared.expr.ExprNode.{ExprNode}
use Rattle.hy_val.specs.declared.expr.Var.{Var}
use Rattle.type_pass.specs.declared.tables.Scope.{Scope}
use Rattle.bpl_type.specs.declared.typed.TypedInvariant.{TypedInvariant}
use Rattle.bpl_type.specs.declared.typed.TypedStmt.{TypedStmt}
use Rattle.bpl_type.specs.declared.typed.TypedStmt.TheFolds as folds
use Rattle.bpl_type.specs.declared.typed.TypedStmt.TheVariants as typed
use Rattle.type_pass.specs.Declarations.{functions}
use Rattle.type_pass.specs.Scopes.{tables_of, body_number}
use Rattle.bpl_type.specs.TypedOf.{else_node, stmt_node, if_node, stmt_of, var_of, pairs_of, guard_of, invariant_of}
use Rattle.bpl_type.specs.WellMade.{guard_is, all_made, is_made, expr_in, stmt_in, if_in, else_in}
use Rattle.bpl_type.proofs.Elements.{both}
use Rattle.bpl_type.proofs.TypedForms.{typed-label, typed-assert, typed-assume, typed-havoc, typed-goto, typed-return, typed-break, typed-assign, typed-call, typed-if, typed-while}

-- ---- typed statements

pub made-label : (name : Name) → is_made (typed.Label name) ≡ true
unfolding is_made
made-label name = search (rules, folds.the_lemmas)

pub made-havoc : (vars : List Var) → is_made (typed.Havoc vars) ≡ true
unfolding is_made
made-havoc vars = search (rules, folds.the_lemmas)

pub made-goto : (labels : List Name) → is_made (typed.Goto labels) ≡ true
unfolding is_made
made-goto labels = search (rules, folds.the_lemmas)

pub made-return : is_made typed.Return ≡ true
unfolding is_made
made-return = search (rules, folds.the_lemmas)

pub made-break : (at : ℕ) (label : Option Name) → is_made (typed.Break at label) ≡ true
unfolding is_made
made-break at label = search (rules, folds.the_lemmas)

pub made-assert : (c : List ExprNode) → is_made (typed.Assert c) ≡ is_expr c
unfolding is_made
made-assert c = search (rules, folds.the_lemmas)

pub made-assume : (c : List ExprNode) → is_made (typed.Assume c) ≡ is_expr c
unfolding is_made
made-assume c = search (rules, folds.the_lemmas)

pub made-assign : (pairs : List (Var × List ExprNode)) → is_made (typed.Assign pairs) ≡ list_all (λ p. is_expr p.1) pairs
unfolding is_made
made-assign pairs = search (rules, folds.the_lemmas)

pub made-call : (proc : ℕ) (args : List (List ExprNode)) (outs : List Var) → is_made (typed.Call proc args outs) ≡ list_all is_expr args
unfolding is_made
made-call proc args outs = search (rules, folds.the_lemmas)

pub made-if : (guard : Option (List ExprNode)) (part other : List TypedStmt) → is_made (typed.If guard part other) ≡ (guard_is guard && (all_made (map is_made part) && all_made (map is_made other)))
unfolding is_made
made-if guard part other = search (rules, folds.the_lemmas)

pub made-while : (guard : Option (List ExprNode)) (invariants : List TypedInvariant) (body : List TypedStmt)
    → is_made (typed.While guard invariants body) ≡ (guard_is guard && (list_all (λ i. is_expr i.condition) invariants && all_made (map is_made body)))
unfolding is_made
made-while guard invariants body = search (rules, folds.the_lemmas)

pub all-mapped : (xs : List TypedStmt) → all_made (map is_made xs) ≡ list_all is_made xs
all-mapped [] = refl
all-mapped (x ∷ xs) = ap (λ b. is_made x && b) (all-mapped xs)

-- ---- statements of a program

module _ (ast : Ast) (s : Scope) where
  pub in-label : (n : Name) → stmt_in ast s (stmts.Label n) ≡ typed.Label n
  in-label n = typed-label (tables_of ast) (functions ast) s n

  pub in-assert : (at : ℕ) (attributes : List Attribute) (c : Expr) → stmt_in ast s (stmts.Assert at attributes c) ≡ typed.Assert (expr_in ast s c)
  in-assert at attributes c = typed-assert (tables_of ast) (functions ast) s at attributes c

  pub in-assume : (at : ℕ) (attributes : List Attribute) (c : Expr) → stmt_in ast s (stmts.Assume at attributes c) ≡ typed.Assume (expr_in ast s c)
  in-assume at attributes c = typed-assume (tables_of ast) (functions ast) s at attributes c

  pub in-havoc : (at : ℕ) (attributes : List Attribute) (names : List Name) → stmt_in ast s (stmts.Havoc at attributes names) ≡ typed.Havoc (map (var_of (tables_of ast) s) names)
  in-havoc at attributes names = typed-havoc (tables_of ast) (functions ast) s at attributes names

  pub in-goto : (at : ℕ) (attributes : List Attribute) (labels : List Name) → stmt_in ast s (stmts.Goto at attributes labels) ≡ typed.Goto labels
  in-goto at attributes labels = typed-goto (tables_of ast) (functions ast) s at attributes labels

  pub in-return : (at : ℕ) (attributes : List Attribute) → stmt_in ast s (stmts.Return at attributes) ≡ typed.Return
  in-return at attributes = typed-return (tables_of ast) (functions ast) s at attributes

  pub in-break : (at : ℕ) (attributes : List Attribute) (label : Option Name) → stmt_in ast s (stmts.Break at attributes label) ≡ typed.Break at label
  in-break at attributes label = typed-break (tables_of ast) (functions ast) s at attributes label

  pub in-assign : (at : ℕ) (targets : List Target) (values : List Expr) → stmt_in ast s (stmts.Assign at targets values) ≡ typed.Assign (pairs_of (tables_of ast) (functions ast) s targets values)
  in-assign at targets values = typed-assign (tables_of ast) (functions ast) s at targets values

  pub in-call : (at : ℕ) (attributes : List Attribute) (outs : List Name) (procedure : Name) (arguments : List Expr)
      → stmt_in ast s (stmts.Call at attributes outs procedure arguments) ≡ typed.Call (body_number (tables_of ast) procedure.text) (map (expr_in ast s) arguments) (map (var_of (tables_of ast) s) outs)
  in-call at attributes outs procedure arguments = typed-call (tables_of ast) (functions ast) s at attributes outs procedure arguments

  pub in-if : (inner : If) → stmt_in ast s (stmts.If inner) ≡ if_in ast s inner
  unfolding if_in
  in-if inner = typed-if (tables_of ast) (functions ast) s inner

  pub in-while : (at : ℕ) (attributes : List Attribute) (guard : Guard) (invariants : List Invariant) (body : List Stmt)
      → stmt_in ast s (stmts.While at attributes guard invariants body) ≡ typed.While (guard_of (tables_of ast) (functions ast) s guard) (map (invariant_of (tables_of ast) (functions ast) s) invariants) (map (stmt_in ast s) body)
  in-while at attributes guard invariants body = typed-while (tables_of ast) (functions ast) s at attributes guard invariants body

  pub if-parts : (x : If) → if_in ast s x ≡ typed.If (guard_of (tables_of ast) (functions ast) s (out-If x).guard) (map (stmt_in ast s) (out-If x).then) (else_in ast s (out-If x).other)
  unfolding if_in else_in stmt_of
  if-parts x = fold_out-If (List TypedStmt) TypedStmt TypedStmt else_node (stmt_node (tables_of ast) (functions ast) s) (if_node (tables_of ast) (functions ast) s) x

  pub else-absent : else_in ast s elses.Absent ≡ []
  unfolding else_in
  else-absent = search (rules, trees.the_lemmas)

  pub else-if : (x : If) → else_in ast s (elses.If x) ≡ if_in ast s x ∷ []
  unfolding else_in if_in
  else-if x = search (rules, trees.the_lemmas)

  pub else-block : (body : List Stmt) → else_in ast s (elses.Block body) ≡ map (stmt_in ast s) body
  unfolding else_in stmt_of
  else-block body = search (rules, trees.the_lemmas)

  -- ---- what is asked of the parts

  pub if-made : (x : If) → is_made (if_in ast s x) ≡ (guard_is (guard_of (tables_of ast) (functions ast) s (out-If x).guard) && (list_all is_made (map (stmt_in ast s) (out-If x).then) && list_all is_made (else_in ast s (out-If x).other)))
  if-made x =
      let g = guard_is (guard_of (tables_of ast) (functions ast) s (out-If x).guard) in
      let part = map (stmt_in ast s) (out-If x).then in
      let other = else_in ast s (out-If x).other in
      ap is_made (if-parts x) ∙ made-if (guard_of (tables_of ast) (functions ast) s (out-If x).guard) part other
      ∙ ap (λ b. g && (b && all_made (map is_made other))) (all-mapped part) ∙ ap (λ b. g && (list_all is_made part && b)) (all-mapped other)

  pub while-made : (at : ℕ) (attributes : List Attribute) (guard : Guard) (invariants : List Invariant) (body : List Stmt)
      → is_made (stmt_in ast s (stmts.While at attributes guard invariants body))
      ≡ (guard_is (guard_of (tables_of ast) (functions ast) s guard) && (list_all (λ i. is_expr i.condition) (map (invariant_of (tables_of ast) (functions ast) s) invariants) && list_all is_made (map (stmt_in ast s) body)))
  while-made at attributes guard invariants body =
      let g = guard_is (guard_of (tables_of ast) (functions ast) s guard) in
      let is : List TypedInvariant = map (invariant_of (tables_of ast) (functions ast) s) invariants in
      ap is_made (in-while at attributes guard invariants body) ∙ made-while (guard_of (tables_of ast) (functions ast) s guard) is (map (stmt_in ast s) body)
      ∙ ap (λ b. g && (list_all (λ i. is_expr i.condition) is && b)) (all-mapped (map (stmt_in ast s) body))

module _ (ast : Ast) (s : Scope) where
  abbrev guards : Guard → Bool
  guards g = guard_is (guard_of (tables_of ast) (functions ast) s g)

  abbrev blocks : List Stmt → Bool
  blocks xs = list_all is_made (map (stmt_in ast s) xs)

  pub then-made : (x : If) (slice : List Stmt) → slice ≡ (out-If x).then → is_made (if_in ast s x) ≡ true → blocks slice ≡ true
  then-made x slice same h =
      ap blocks same ∙ (both (blocks (out-If x).then) (list_all is_made (else_in ast s (out-If x).other)) (both (guards (out-If x).guard) _ (sym (if-made ast s x) ∙ h)).1).0

  pub other-made : (x : If) → is_made (if_in ast s x) ≡ true → list_all is_made (else_in ast s (out-If x).other) ≡ true
  other-made x h = (both (blocks (out-If x).then) (list_all is_made (else_in ast s (out-If x).other)) (both (guards (out-If x).guard) _ (sym (if-made ast s x) ∙ h)).1).1

  pub else-if-made : (other : Else) (x y : If) → other ≡ elses.If x → y ≡ x → list_all is_made (else_in ast s other) ≡ true → is_made (if_in ast s y) ≡ true
  else-if-made other x y is same h =
      ap (λ v. is_made (if_in ast s v)) same ∙ (both (is_made (if_in ast s x)) true (sym (ap (λ o. list_all is_made (else_in ast s o)) is ∙ ap (list_all is_made) (else-if ast s x)) ∙ h)).0

  pub else-block-made : (other : Else) (body slice : List Stmt) → other ≡ elses.Block body → slice ≡ body → list_all is_made (else_in ast s other) ≡ true → blocks slice ≡ true
  else-block-made other body slice is same h = ap blocks same ∙ sym (ap (λ o. list_all is_made (else_in ast s o)) is ∙ ap (list_all is_made) (else-block ast s body)) ∙ h

  pub stmt-if-made : (x : Stmt) (inner : If) → x ≡ stmts.If inner → is_made (stmt_in ast s x) ≡ true → is_made (if_in ast s inner) ≡ true
  stmt-if-made x inner is h = sym (ap (λ v. is_made (stmt_in ast s v)) is ∙ ap is_made (in-if ast s inner)) ∙ h

  pub body-made : (x : Stmt) (at : ℕ) (attributes : List Attribute) (guard : Guard) (invariants : List Invariant) (body slice : List Stmt) → x ≡ stmts.While at attributes guard invariants body → slice ≡ body → is_made (stmt_in ast s x) ≡ true → blocks slice ≡ true
  body-made x at attributes guard invariants body slice is same h =
      ap blocks same
      ∙ (both (list_all (λ i. is_expr i.condition) (map (invariant_of (tables_of ast) (functions ast) s) invariants)) (blocks body)
      (both (guards guard) _ (sym (ap (λ v. is_made (stmt_in ast s v)) is ∙ while-made ast s at attributes guard invariants body) ∙ h)).1).1

pub ruleset statements = (in-label, in-assert, in-assume, in-havoc, in-goto, in-return, in-break, in-assign, in-call, in-if, in-while, if-parts, else-absent, else-if, else-block, made-assert, made-assume, made-assign, made-call, if-made, while-made)
