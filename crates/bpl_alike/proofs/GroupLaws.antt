-- The group of each expression and of each statement.
use Rattle.std.proofs.Common.{◌≡◌, ℕ, List, Option, refl, ◌∙◌, rules}
use Rattle.bpl_ast.specs.declared.expr.Bracket.{Bracket}
use Rattle.bpl_ast.specs.declared.expr.Bracket.TheFolds.{the_lemmas as expr_lemmas}
use Rattle.bpl_ast.specs.declared.expr.Bracket.TheOpen.{Expr-F}
use Rattle.bpl_ast.specs.declared.expr.Expr.{Expr, out-Expr}
use Rattle.bpl_ast.specs.declared.expr.Expr.TheVariants as e
use Rattle.bpl_ast.specs.declared.name.Attribute.{Attribute}
use Rattle.bpl_ast.specs.declared.name.Name.{Name}
use Rattle.bpl_ast.specs.declared.stmt.Else.TheFolds.{the_lemmas as stmt_lemmas}
use Rattle.bpl_ast.specs.declared.stmt.Else.TheOpen.{Stmt-F}
use Rattle.bpl_ast.specs.declared.stmt.Else.{Else}
use Rattle.bpl_ast.specs.declared.stmt.Guard.{Guard}
use Rattle.bpl_ast.specs.declared.stmt.If.{If}
use Rattle.bpl_ast.specs.declared.stmt.Invariant.{Invariant}
use Rattle.bpl_ast.specs.declared.stmt.Stmt.{Stmt, out-Stmt}
use Rattle.bpl_ast.specs.declared.stmt.Stmt.TheVariants as s
use Rattle.bpl_ast.specs.declared.stmt.Target.{Target}
use Rattle.bpl_alike.specs.Groups.{expr_group, expr_group_of, stmt_group, stmt_group_of}
use Rattle.bpl_alike.specs.Groups.ExprGroup.{Leaf, Bracketed, Listed, Compared, Logical}
use Rattle.bpl_alike.specs.Groups.StmtGroup.{Claim, Update, Called, Jump, Nested}
use Rattle.bpl_alike.proofs.ExprLaws.{turned as expr_turned}
use Rattle.bpl_alike.proofs.StmtLaws.{turned as stmt_turned}

-- ---- expressions

pub expr-true : (at : ℕ) → expr_group (e.True at) ≡ Leaf
unfolding expr_group
expr-true at = search (rules, expr_lemmas)

pub expr-false : (at : ℕ) → expr_group (e.False at) ≡ Leaf
unfolding expr_group
expr-false at = search (rules, expr_lemmas)

pub expr-literal : (at width bits : ℕ) → expr_group (e.Literal at width bits) ≡ Leaf
unfolding expr_group
expr-literal at width bits = search (rules, expr_lemmas)

pub expr-variable : (name : Name) → expr_group (e.Variable name) ≡ Leaf
unfolding expr_group
expr-variable name = search (rules, expr_lemmas)

pub expr-apply : (f : Name) (xs : List Expr) → expr_group (e.Apply f xs) ≡ Listed
unfolding expr_group
expr-apply f xs = search (rules, expr_lemmas)

pub expr-post : (at : ℕ) (x : Expr) (bs : List Bracket) → expr_group (e.Post at x bs) ≡ Bracketed
unfolding expr_group
expr-post at x bs = search (rules, expr_lemmas)

pub expr-not : (at : ℕ) (x : Expr) → expr_group (e.Not at x) ≡ Logical
unfolding expr_group
expr-not at x = search (rules, expr_lemmas)

pub expr-concat : (at : ℕ) (xs : List Expr) → expr_group (e.Concat at xs) ≡ Listed
unfolding expr_group
expr-concat at xs = search (rules, expr_lemmas)

pub expr-equal : (at : ℕ) (x y : Expr) → expr_group (e.Equal at x y) ≡ Compared
unfolding expr_group
expr-equal at x y = search (rules, expr_lemmas)

pub expr-not_equal : (at : ℕ) (x y : Expr) → expr_group (e.NotEqual at x y) ≡ Compared
unfolding expr_group
expr-not_equal at x y = search (rules, expr_lemmas)

pub expr-and : (at : ℕ) (xs : List Expr) → expr_group (e.And at xs) ≡ Listed
unfolding expr_group
expr-and at xs = search (rules, expr_lemmas)

pub expr-or : (at : ℕ) (xs : List Expr) → expr_group (e.Or at xs) ≡ Listed
unfolding expr_group
expr-or at xs = search (rules, expr_lemmas)

pub expr-implies : (at : ℕ) (x y : Expr) → expr_group (e.Implies at x y) ≡ Logical
unfolding expr_group
expr-implies at x y = search (rules, expr_lemmas)

pub expr-implied_by : (at : ℕ) (xs : List Expr) → expr_group (e.ImpliedBy at xs) ≡ Listed
unfolding expr_group
expr-implied_by at xs = search (rules, expr_lemmas)

pub expr-equivalent : (at : ℕ) (xs : List Expr) → expr_group (e.Equivalent at xs) ≡ Listed
unfolding expr_group
expr-equivalent at xs = search (rules, expr_lemmas)

pub expr-choice : (at : ℕ) (x y z : Expr) → expr_group (e.Choice at x y z) ≡ Logical
unfolding expr_group
expr-choice at x y z = search (rules, expr_lemmas)

pub ruleset expr_groups = (expr-true, expr-false, expr-literal, expr-variable, expr-apply, expr-post, expr-not, expr-concat, expr-equal, expr-not_equal, expr-and, expr-or, expr-implies, expr-implied_by, expr-equivalent, expr-choice)

-- ---- statements

pub stmt-label : (name : Name) → stmt_group (s.Label name) ≡ Jump
unfolding stmt_group
stmt-label name = search (rules, stmt_lemmas)

pub stmt-assert : (at : ℕ) (attributes : List Attribute) (condition : Expr) → stmt_group (s.Assert at attributes condition) ≡ Claim
unfolding stmt_group
stmt-assert at attributes condition = search (rules, stmt_lemmas)

pub stmt-assume : (at : ℕ) (attributes : List Attribute) (condition : Expr) → stmt_group (s.Assume at attributes condition) ≡ Claim
unfolding stmt_group
stmt-assume at attributes condition = search (rules, stmt_lemmas)

pub stmt-havoc : (at : ℕ) (attributes : List Attribute) (names : List Name) → stmt_group (s.Havoc at attributes names) ≡ Update
unfolding stmt_group
stmt-havoc at attributes names = search (rules, stmt_lemmas)

pub stmt-goto : (at : ℕ) (attributes : List Attribute) (labels : List Name) → stmt_group (s.Goto at attributes labels) ≡ Jump
unfolding stmt_group
stmt-goto at attributes labels = search (rules, stmt_lemmas)

pub stmt-return : (at : ℕ) (attributes : List Attribute) → stmt_group (s.Return at attributes) ≡ Jump
unfolding stmt_group
stmt-return at attributes = search (rules, stmt_lemmas)

pub stmt-break : (at : ℕ) (attributes : List Attribute) (label : Option Name) → stmt_group (s.Break at attributes label) ≡ Jump
unfolding stmt_group
stmt-break at attributes label = search (rules, stmt_lemmas)

pub stmt-assign : (at : ℕ) (targets : List Target) (values : List Expr) → stmt_group (s.Assign at targets values) ≡ Update
unfolding stmt_group
stmt-assign at targets values = search (rules, stmt_lemmas)

pub stmt-call : (at : ℕ) (attributes : List Attribute) (outs : List Name) (procedure : Name) (arguments : List Expr) → stmt_group (s.Call at attributes outs procedure arguments) ≡ Called
unfolding stmt_group
stmt-call at attributes outs procedure arguments = search (rules, stmt_lemmas)

pub stmt-if : (inner : If) → stmt_group (s.If inner) ≡ Nested
unfolding stmt_group
stmt-if inner = search (rules, stmt_lemmas)

pub stmt-while : (at : ℕ) (attributes : List Attribute) (guard : Guard) (invariants : List Invariant) (body : List Stmt) → stmt_group (s.While at attributes guard invariants body) ≡ Nested
unfolding stmt_group
stmt-while at attributes guard invariants body = search (rules, stmt_lemmas)

pub ruleset stmt_groups = (stmt-label, stmt-assert, stmt-assume, stmt-havoc, stmt-goto, stmt-return, stmt-break, stmt-assign, stmt-call, stmt-if, stmt-while)

-- ---- no other node is in a group

no_leaf_node : (a : Expr) (z : Expr-F Bracket Expr) → out-Expr a ≡ z → expr_group_of z ≡ Leaf → ((at : ℕ) → a ≡ e.True at → ⊥) → ((at : ℕ) → a ≡ e.False at → ⊥) → ((at width bits : ℕ) → a ≡ e.Literal at width bits → ⊥) → ((name : Name) → a ≡ e.Variable name → ⊥) → ⊥
no_leaf_node a (Expr-F.True at) is group n0 n1 n2 n3 = n0 at (expr_turned a (Expr-F.True at) is ∙ e.rolls-True at)
no_leaf_node a (Expr-F.False at) is group n0 n1 n2 n3 = n1 at (expr_turned a (Expr-F.False at) is ∙ e.rolls-False at)
no_leaf_node a (Expr-F.Literal at width bits) is group n0 n1 n2 n3 = n2 at width bits (expr_turned a (Expr-F.Literal at width bits) is ∙ e.rolls-Literal at width bits)
no_leaf_node a (Expr-F.Variable name) is group n0 n1 n2 n3 = n3 name (expr_turned a (Expr-F.Variable name) is ∙ e.rolls-Variable name)
no_leaf_node a _ is group n0 n1 n2 n3 = absurd cc

pub no_leaf : (a : Expr) → expr_group a ≡ Leaf → ((at : ℕ) → a ≡ e.True at → ⊥) → ((at : ℕ) → a ≡ e.False at → ⊥) → ((at width bits : ℕ) → a ≡ e.Literal at width bits → ⊥) → ((name : Name) → a ≡ e.Variable name → ⊥) → ⊥
unfolding expr_group
no_leaf a group n0 n1 n2 n3 = no_leaf_node a (out-Expr a) refl group n0 n1 n2 n3

no_application_node : (a : Expr) (z : Expr-F Bracket Expr) → out-Expr a ≡ z → expr_group_of z ≡ Listed → ((f : Name) (xs : List Expr) → a ≡ e.Apply f xs → ⊥) → ((at : ℕ) (xs : List Expr) → a ≡ e.Concat at xs → ⊥) → ((at : ℕ) (xs : List Expr) → a ≡ e.And at xs → ⊥) → ((at : ℕ) (xs : List Expr) → a ≡ e.Or at xs → ⊥) → ((at : ℕ) (xs : List Expr) → a ≡ e.ImpliedBy at xs → ⊥) → ((at : ℕ) (xs : List Expr) → a ≡ e.Equivalent at xs → ⊥) → ⊥
no_application_node a (Expr-F.Apply f xs) is group n0 n1 n2 n3 n4 n5 = n0 f xs (expr_turned a (Expr-F.Apply f xs) is ∙ e.rolls-Apply f xs)
no_application_node a (Expr-F.Concat at xs) is group n0 n1 n2 n3 n4 n5 = n1 at xs (expr_turned a (Expr-F.Concat at xs) is ∙ e.rolls-Concat at xs)
no_application_node a (Expr-F.And at xs) is group n0 n1 n2 n3 n4 n5 = n2 at xs (expr_turned a (Expr-F.And at xs) is ∙ e.rolls-And at xs)
no_application_node a (Expr-F.Or at xs) is group n0 n1 n2 n3 n4 n5 = n3 at xs (expr_turned a (Expr-F.Or at xs) is ∙ e.rolls-Or at xs)
no_application_node a (Expr-F.ImpliedBy at xs) is group n0 n1 n2 n3 n4 n5 = n4 at xs (expr_turned a (Expr-F.ImpliedBy at xs) is ∙ e.rolls-ImpliedBy at xs)
no_application_node a (Expr-F.Equivalent at xs) is group n0 n1 n2 n3 n4 n5 = n5 at xs (expr_turned a (Expr-F.Equivalent at xs) is ∙ e.rolls-Equivalent at xs)
no_application_node a _ is group n0 n1 n2 n3 n4 n5 = absurd cc

pub no_application : (a : Expr) → expr_group a ≡ Listed → ((f : Name) (xs : List Expr) → a ≡ e.Apply f xs → ⊥) → ((at : ℕ) (xs : List Expr) → a ≡ e.Concat at xs → ⊥) → ((at : ℕ) (xs : List Expr) → a ≡ e.And at xs → ⊥) → ((at : ℕ) (xs : List Expr) → a ≡ e.Or at xs → ⊥) → ((at : ℕ) (xs : List Expr) → a ≡ e.ImpliedBy at xs → ⊥) → ((at : ℕ) (xs : List Expr) → a ≡ e.Equivalent at xs → ⊥) → ⊥
unfolding expr_group
no_application a group n0 n1 n2 n3 n4 n5 = no_application_node a (out-Expr a) refl group n0 n1 n2 n3 n4 n5

no_comparison_node : (a : Expr) (z : Expr-F Bracket Expr) → out-Expr a ≡ z → expr_group_of z ≡ Compared → ((at : ℕ) (x y : Expr) → a ≡ e.Equal at x y → ⊥) → ((at : ℕ) (x y : Expr) → a ≡ e.NotEqual at x y → ⊥) → ⊥
no_comparison_node a (Expr-F.Equal at x y) is group n0 n1 = n0 at x y (expr_turned a (Expr-F.Equal at x y) is ∙ e.rolls-Equal at x y)
no_comparison_node a (Expr-F.NotEqual at x y) is group n0 n1 = n1 at x y (expr_turned a (Expr-F.NotEqual at x y) is ∙ e.rolls-NotEqual at x y)
no_comparison_node a _ is group n0 n1 = absurd cc

pub no_comparison : (a : Expr) → expr_group a ≡ Compared → ((at : ℕ) (x y : Expr) → a ≡ e.Equal at x y → ⊥) → ((at : ℕ) (x y : Expr) → a ≡ e.NotEqual at x y → ⊥) → ⊥
unfolding expr_group
no_comparison a group n0 n1 = no_comparison_node a (out-Expr a) refl group n0 n1

no_connective_node : (a : Expr) (z : Expr-F Bracket Expr) → out-Expr a ≡ z → expr_group_of z ≡ Logical → ((at : ℕ) (x : Expr) → a ≡ e.Not at x → ⊥) → ((at : ℕ) (x y : Expr) → a ≡ e.Implies at x y → ⊥) → ((at : ℕ) (x y z : Expr) → a ≡ e.Choice at x y z → ⊥) → ⊥
no_connective_node a (Expr-F.Not at x) is group n0 n1 n2 = n0 at x (expr_turned a (Expr-F.Not at x) is ∙ e.rolls-Not at x)
no_connective_node a (Expr-F.Implies at x y) is group n0 n1 n2 = n1 at x y (expr_turned a (Expr-F.Implies at x y) is ∙ e.rolls-Implies at x y)
no_connective_node a (Expr-F.Choice at x y z) is group n0 n1 n2 = n2 at x y z (expr_turned a (Expr-F.Choice at x y z) is ∙ e.rolls-Choice at x y z)
no_connective_node a _ is group n0 n1 n2 = absurd cc

pub no_connective : (a : Expr) → expr_group a ≡ Logical → ((at : ℕ) (x : Expr) → a ≡ e.Not at x → ⊥) → ((at : ℕ) (x y : Expr) → a ≡ e.Implies at x y → ⊥) → ((at : ℕ) (x y z : Expr) → a ≡ e.Choice at x y z → ⊥) → ⊥
unfolding expr_group
no_connective a group n0 n1 n2 = no_connective_node a (out-Expr a) refl group n0 n1 n2

no_claim_node : (a : Stmt) (z : Stmt-F Else Stmt If) → out-Stmt a ≡ z → stmt_group_of z ≡ Claim → ((at : ℕ) (attributes : List Attribute) (condition : Expr) → a ≡ s.Assert at attributes condition → ⊥) → ((at : ℕ) (attributes : List Attribute) (condition : Expr) → a ≡ s.Assume at attributes condition → ⊥) → ⊥
no_claim_node a (Stmt-F.Assert at attributes condition) is group n0 n1 = n0 at attributes condition (stmt_turned a (Stmt-F.Assert at attributes condition) is ∙ s.rolls-Assert at attributes condition)
no_claim_node a (Stmt-F.Assume at attributes condition) is group n0 n1 = n1 at attributes condition (stmt_turned a (Stmt-F.Assume at attributes condition) is ∙ s.rolls-Assume at attributes condition)
no_claim_node a _ is group n0 n1 = absurd cc

pub no_claim : (a : Stmt) → stmt_group a ≡ Claim → ((at : ℕ) (attributes : List Attribute) (condition : Expr) → a ≡ s.Assert at attributes condition → ⊥) → ((at : ℕ) (attributes : List Attribute) (condition : Expr) → a ≡ s.Assume at attributes condition → ⊥) → ⊥
unfolding stmt_group
no_claim a group n0 n1 = no_claim_node a (out-Stmt a) refl group n0 n1

no_update_node : (a : Stmt) (z : Stmt-F Else Stmt If) → out-Stmt a ≡ z → stmt_group_of z ≡ Update → ((at : ℕ) (attributes : List Attribute) (names : List Name) → a ≡ s.Havoc at attributes names → ⊥) → ((at : ℕ) (targets : List Target) (values : List Expr) → a ≡ s.Assign at targets values → ⊥) → ⊥
no_update_node a (Stmt-F.Havoc at attributes names) is group n0 n1 = n0 at attributes names (stmt_turned a (Stmt-F.Havoc at attributes names) is ∙ s.rolls-Havoc at attributes names)
no_update_node a (Stmt-F.Assign at targets values) is group n0 n1 = n1 at targets values (stmt_turned a (Stmt-F.Assign at targets values) is ∙ s.rolls-Assign at targets values)
no_update_node a _ is group n0 n1 = absurd cc

pub no_update : (a : Stmt) → stmt_group a ≡ Update → ((at : ℕ) (attributes : List Attribute) (names : List Name) → a ≡ s.Havoc at attributes names → ⊥) → ((at : ℕ) (targets : List Target) (values : List Expr) → a ≡ s.Assign at targets values → ⊥) → ⊥
unfolding stmt_group
no_update a group n0 n1 = no_update_node a (out-Stmt a) refl group n0 n1

no_call_node : (a : Stmt) (z : Stmt-F Else Stmt If) → out-Stmt a ≡ z → stmt_group_of z ≡ Called → ((at : ℕ) (attributes : List Attribute) (outs : List Name) (procedure : Name) (arguments : List Expr) → a ≡ s.Call at attributes outs procedure arguments → ⊥) → ⊥
no_call_node a (Stmt-F.Call at attributes outs procedure arguments) is group n0 = n0 at attributes outs procedure arguments (stmt_turned a (Stmt-F.Call at attributes outs procedure arguments) is ∙ s.rolls-Call at attributes outs procedure arguments)
no_call_node a _ is group n0 = absurd cc

pub no_call : (a : Stmt) → stmt_group a ≡ Called → ((at : ℕ) (attributes : List Attribute) (outs : List Name) (procedure : Name) (arguments : List Expr) → a ≡ s.Call at attributes outs procedure arguments → ⊥) → ⊥
unfolding stmt_group
no_call a group n0 = no_call_node a (out-Stmt a) refl group n0

no_jump_node : (a : Stmt) (z : Stmt-F Else Stmt If) → out-Stmt a ≡ z → stmt_group_of z ≡ Jump → ((name : Name) → a ≡ s.Label name → ⊥) → ((at : ℕ) (attributes : List Attribute) (labels : List Name) → a ≡ s.Goto at attributes labels → ⊥) → ((at : ℕ) (attributes : List Attribute) → a ≡ s.Return at attributes → ⊥) → ((at : ℕ) (attributes : List Attribute) (label : Option Name) → a ≡ s.Break at attributes label → ⊥) → ⊥
no_jump_node a (Stmt-F.Label name) is group n0 n1 n2 n3 = n0 name (stmt_turned a (Stmt-F.Label name) is ∙ s.rolls-Label name)
no_jump_node a (Stmt-F.Goto at attributes labels) is group n0 n1 n2 n3 = n1 at attributes labels (stmt_turned a (Stmt-F.Goto at attributes labels) is ∙ s.rolls-Goto at attributes labels)
no_jump_node a (Stmt-F.Return at attributes) is group n0 n1 n2 n3 = n2 at attributes (stmt_turned a (Stmt-F.Return at attributes) is ∙ s.rolls-Return at attributes)
no_jump_node a (Stmt-F.Break at attributes label) is group n0 n1 n2 n3 = n3 at attributes label (stmt_turned a (Stmt-F.Break at attributes label) is ∙ s.rolls-Break at attributes label)
no_jump_node a _ is group n0 n1 n2 n3 = absurd cc

pub no_jump : (a : Stmt) → stmt_group a ≡ Jump → ((name : Name) → a ≡ s.Label name → ⊥) → ((at : ℕ) (attributes : List Attribute) (labels : List Name) → a ≡ s.Goto at attributes labels → ⊥) → ((at : ℕ) (attributes : List Attribute) → a ≡ s.Return at attributes → ⊥) → ((at : ℕ) (attributes : List Attribute) (label : Option Name) → a ≡ s.Break at attributes label → ⊥) → ⊥
unfolding stmt_group
no_jump a group n0 n1 n2 n3 = no_jump_node a (out-Stmt a) refl group n0 n1 n2 n3
