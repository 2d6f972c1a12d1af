-- The functions that an expression uses, by its outermost node.
use Rattle.std.proofs.Common.{◌≡◌, ℕ, List, map, rules}
use Rattle.bpl_ast.specs.declared.expr.Bracket.{Bracket}
use Rattle.bpl_ast.specs.declared.expr.Bracket.TheFolds.{the_lemmas}
use Rattle.bpl_ast.specs.declared.expr.Bracket.TheOpen.{Bracket-F, Expr-F}
use Rattle.bpl_ast.specs.declared.expr.Bracket.TheVariants as brackets
use Rattle.bpl_ast.specs.declared.expr.Expr.{Expr}
use Rattle.bpl_ast.specs.declared.expr.Expr.TheVariants as e
use Rattle.bpl_ast.specs.declared.name.Name.{Name}
pub use Rattle.type_pass.specs.Uses.{in_bracket}
use Rattle.type_pass.specs.Passes.{uses, bracket_uses, expr_uses}

pub uses-true : (at : ℕ) → uses (e.True at) ≡ expr_uses (Expr-F.True at)
unfolding uses in_bracket
uses-true at = search (rules, the_lemmas)

pub uses-false : (at : ℕ) → uses (e.False at) ≡ expr_uses (Expr-F.False at)
unfolding uses in_bracket
uses-false at = search (rules, the_lemmas)

pub uses-literal : (at : ℕ) (width : ℕ) (bits : ℕ) → uses (e.Literal at width bits) ≡ expr_uses (Expr-F.Literal at width bits)
unfolding uses in_bracket
uses-literal at width bits = search (rules, the_lemmas)

pub uses-variable : (n : Name) → uses (e.Variable n) ≡ expr_uses (Expr-F.Variable n)
unfolding uses in_bracket
uses-variable n = search (rules, the_lemmas)

pub uses-apply : (f : Name) (xs : List Expr) → uses (e.Apply f xs) ≡ expr_uses (Expr-F.Apply f (map (uses) xs))
unfolding uses in_bracket
uses-apply f xs = search (rules, the_lemmas)

pub uses-post : (at : ℕ) (x : Expr) (bs : List Bracket) → uses (e.Post at x bs) ≡ expr_uses (Expr-F.Post at (uses x) (map (in_bracket) bs))
unfolding uses in_bracket
uses-post at x bs = search (rules, the_lemmas)

pub uses-not : (at : ℕ) (x : Expr) → uses (e.Not at x) ≡ expr_uses (Expr-F.Not at (uses x))
unfolding uses in_bracket
uses-not at x = search (rules, the_lemmas)

pub uses-concat : (at : ℕ) (xs : List Expr) → uses (e.Concat at xs) ≡ expr_uses (Expr-F.Concat at (map (uses) xs))
unfolding uses in_bracket
uses-concat at xs = search (rules, the_lemmas)

pub uses-equal : (at : ℕ) (x : Expr) (y : Expr) → uses (e.Equal at x y) ≡ expr_uses (Expr-F.Equal at (uses x) (uses y))
unfolding uses in_bracket
uses-equal at x y = search (rules, the_lemmas)

pub uses-not_equal : (at : ℕ) (x : Expr) (y : Expr) → uses (e.NotEqual at x y) ≡ expr_uses (Expr-F.NotEqual at (uses x) (uses y))
unfolding uses in_bracket
uses-not_equal at x y = search (rules, the_lemmas)

pub uses-and : (at : ℕ) (xs : List Expr) → uses (e.And at xs) ≡ expr_uses (Expr-F.And at (map (uses) xs))
unfolding uses in_bracket
uses-and at xs = search (rules, the_lemmas)

pub uses-or : (at : ℕ) (xs : List Expr) → uses (e.Or at xs) ≡ expr_uses (Expr-F.Or at (map (uses) xs))
unfolding uses in_bracket
uses-or at xs = search (rules, the_lemmas)

pub uses-implies : (at : ℕ) (x : Expr) (y : Expr) → uses (e.Implies at x y) ≡ expr_uses (Expr-F.Implies at (uses x) (uses y))
unfolding uses in_bracket
uses-implies at x y = search (rules, the_lemmas)

pub uses-implied_by : (at : ℕ) (xs : List Expr) → uses (e.ImpliedBy at xs) ≡ expr_uses (Expr-F.ImpliedBy at (map (uses) xs))
unfolding uses in_bracket
uses-implied_by at xs = search (rules, the_lemmas)

pub uses-equivalent : (at : ℕ) (xs : List Expr) → uses (e.Equivalent at xs) ≡ expr_uses (Expr-F.Equivalent at (map (uses) xs))
unfolding uses in_bracket
uses-equivalent at xs = search (rules, the_lemmas)

pub uses-choice : (at : ℕ) (x : Expr) (y : Expr) (z : Expr) → uses (e.Choice at x y z) ≡ expr_uses (Expr-F.Choice at (uses x) (uses y) (uses z))
unfolding uses in_bracket
uses-choice at x y z = search (rules, the_lemmas)

pub uses-select : (x : Expr) → in_bracket (brackets.Select x) ≡ bracket_uses (Bracket-F.Select (uses x))
unfolding uses in_bracket
uses-select x = search (rules, the_lemmas)

pub uses-store : (x : Expr) (y : Expr) → in_bracket (brackets.Store x y) ≡ bracket_uses (Bracket-F.Store (uses x) (uses y))
unfolding uses in_bracket
uses-store x y = search (rules, the_lemmas)

pub uses-extract : (high : ℕ) (low : ℕ) → in_bracket (brackets.Extract high low) ≡ bracket_uses (Bracket-F.Extract high low)
unfolding uses in_bracket
uses-extract high low = search (rules, the_lemmas)
