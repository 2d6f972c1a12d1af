-- Expressions and statements in groups, by their outermost nodes.
use Rattle.std.specs.Prelude.{◌≡◌, ℕ, List}
use Rattle.bpl_ast.specs.declared.expr.Bracket.{Bracket}
use Rattle.bpl_ast.specs.declared.expr.Bracket.TheOpen.{Expr-F}
use Rattle.bpl_ast.specs.declared.expr.Expr.{Expr, out-Expr}
use Rattle.bpl_ast.specs.declared.expr.Expr.TheVariants as e
use Rattle.bpl_ast.specs.declared.stmt.Else.{Else}
use Rattle.bpl_ast.specs.declared.stmt.Else.TheOpen.{Stmt-F}
use Rattle.bpl_ast.specs.declared.stmt.If.{If}
use Rattle.bpl_ast.specs.declared.stmt.Stmt.{Stmt, out-Stmt}

-- ---- expressions

pub data ExprGroup : Type 0 where
  -- a constant or a variable
  Leaf : ExprGroup
  -- brackets behind an operand
  Bracketed : ExprGroup
  -- a function or an operator on a list of operands
  Listed : ExprGroup
  -- two operands that are equal or are not
  Compared : ExprGroup
  -- a negation, an implication or a choice
  Logical : ExprGroup

abbrev pub expr_group_of : Expr-F Bracket Expr → ExprGroup
expr_group_of (Expr-F.True at) = ExprGroup.Leaf
expr_group_of (Expr-F.False at) = ExprGroup.Leaf
expr_group_of (Expr-F.Literal at width bits) = ExprGroup.Leaf
expr_group_of (Expr-F.Variable name) = ExprGroup.Leaf
expr_group_of (Expr-F.Apply f xs) = ExprGroup.Listed
expr_group_of (Expr-F.Post at x bs) = ExprGroup.Bracketed
expr_group_of (Expr-F.Not at x) = ExprGroup.Logical
expr_group_of (Expr-F.Concat at xs) = ExprGroup.Listed
expr_group_of (Expr-F.Equal at x y) = ExprGroup.Compared
expr_group_of (Expr-F.NotEqual at x y) = ExprGroup.Compared
expr_group_of (Expr-F.And at xs) = ExprGroup.Listed
expr_group_of (Expr-F.Or at xs) = ExprGroup.Listed
expr_group_of (Expr-F.Implies at x y) = ExprGroup.Logical
expr_group_of (Expr-F.ImpliedBy at xs) = ExprGroup.Listed
expr_group_of (Expr-F.Equivalent at xs) = ExprGroup.Listed
expr_group_of (Expr-F.Choice at x y z) = ExprGroup.Logical

unfoldable pub expr_group : Expr → ExprGroup
expr_group x = expr_group_of (out-Expr x)

-- no operand with brackets behind it
abbrev pub NoPost : Expr → Type 0
NoPost x = (at : ℕ) (y : Expr) (bs : List Bracket) → x ≡ e.Post at y bs → ⊥

-- ---- statements

pub data StmtGroup : Type 0 where
  -- an `assert` or an `assume`
  Claim : StmtGroup
  -- a `havoc` or an assignment
  Update : StmtGroup
  -- a `call`
  Called : StmtGroup
  -- a label, or a way out of the block
  Jump : StmtGroup
  -- an `if` or a `while`
  Nested : StmtGroup

abbrev pub stmt_group_of : Stmt-F Else Stmt If → StmtGroup
stmt_group_of (Stmt-F.Label name) = StmtGroup.Jump
stmt_group_of (Stmt-F.Assert at attributes condition) = StmtGroup.Claim
stmt_group_of (Stmt-F.Assume at attributes condition) = StmtGroup.Claim
stmt_group_of (Stmt-F.Havoc at attributes names) = StmtGroup.Update
stmt_group_of (Stmt-F.Goto at attributes labels) = StmtGroup.Jump
stmt_group_of (Stmt-F.Return at attributes) = StmtGroup.Jump
stmt_group_of (Stmt-F.Break at attributes label) = StmtGroup.Jump
stmt_group_of (Stmt-F.Assign at targets values) = StmtGroup.Update
stmt_group_of (Stmt-F.Call at attributes outs procedure arguments) = StmtGroup.Called
stmt_group_of (Stmt-F.Stmt::If inner) = StmtGroup.Nested
stmt_group_of (Stmt-F.While at attributes guard invariants body) = StmtGroup.Nested

unfoldable pub stmt_group : Stmt → StmtGroup
stmt_group x = stmt_group_of (out-Stmt x)
