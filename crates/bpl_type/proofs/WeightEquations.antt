-- What an expression counts, by its outermost node.
use Rattle.std.proofs.Common.{◌≡◌, ℕ, List, map, rules}
use Rattle.bpl_ast.specs.declared.expr.Bracket.{Bracket}
use Rattle.bpl_ast.specs.declared.expr.Bracket.TheFolds.{the_lemmas}
use Rattle.bpl_ast.specs.declared.expr.Bracket.TheOpen.{Bracket-F, Expr-F}
use Rattle.bpl_ast.specs.declared.expr.Bracket.TheVariants as brackets
use Rattle.bpl_ast.specs.declared.expr.Expr.{Expr}
use Rattle.bpl_ast.specs.declared.expr.Expr.TheVariants as e
use Rattle.bpl_ast.specs.declared.name.Name.{Name}
use Rattle.type_pass.specs.declared.tables.Scope.{Scope}
use Rattle.type_pass.specs.declared.tables.Tables.{Tables}
use Rattle.bpl_type.specs.Weights.{Templates, bracket_weight, expr_weight, weight_by, bracket_weight_by}

pub weight-true : (f : Templates) (t : Tables) (s : Scope) (at : ℕ) → weight_by f t s (e.True at) ≡ expr_weight f t s (Expr-F.True at)
unfolding weight_by bracket_weight_by
weight-true f t s at = search (rules, the_lemmas)

pub weight-false : (f : Templates) (t : Tables) (s : Scope) (at : ℕ) → weight_by f t s (e.False at) ≡ expr_weight f t s (Expr-F.False at)
unfolding weight_by bracket_weight_by
weight-false f t s at = search (rules, the_lemmas)

pub weight-literal : (f : Templates) (t : Tables) (s : Scope) (at : ℕ) (width : ℕ) (bits : ℕ) → weight_by f t s (e.Literal at width bits) ≡ expr_weight f t s (Expr-F.Literal at width bits)
unfolding weight_by bracket_weight_by
weight-literal f t s at width bits = search (rules, the_lemmas)

pub weight-variable : (f : Templates) (t : Tables) (s : Scope) (n : Name) → weight_by f t s (e.Variable n) ≡ expr_weight f t s (Expr-F.Variable n)
unfolding weight_by bracket_weight_by
weight-variable f t s n = search (rules, the_lemmas)

pub weight-apply : (f : Templates) (t : Tables) (s : Scope) (g : Name) (xs : List Expr) → weight_by f t s (e.Apply g xs) ≡ expr_weight f t s (Expr-F.Apply g (map (weight_by f t s) xs))
unfolding weight_by bracket_weight_by
weight-apply f t s g xs = search (rules, the_lemmas)

pub weight-post : (f : Templates) (t : Tables) (s : Scope) (at : ℕ) (x : Expr) (bs : List Bracket) → weight_by f t s (e.Post at x bs) ≡ expr_weight f t s (Expr-F.Post at (weight_by f t s x) (map (bracket_weight_by f t s) bs))
unfolding weight_by bracket_weight_by
weight-post f t s at x bs = search (rules, the_lemmas)

pub weight-not : (f : Templates) (t : Tables) (s : Scope) (at : ℕ) (x : Expr) → weight_by f t s (e.Not at x) ≡ expr_weight f t s (Expr-F.Not at (weight_by f t s x))
unfolding weight_by bracket_weight_by
weight-not f t s at x = search (rules, the_lemmas)

pub weight-concat : (f : Templates) (t : Tables) (s : Scope) (at : ℕ) (xs : List Expr) → weight_by f t s (e.Concat at xs) ≡ expr_weight f t s (Expr-F.Concat at (map (weight_by f t s) xs))
unfolding weight_by bracket_weight_by
weight-concat f t s at xs = search (rules, the_lemmas)

pub weight-equal : (f : Templates) (t : Tables) (s : Scope) (at : ℕ) (x : Expr) (y : Expr) → weight_by f t s (e.Equal at x y) ≡ expr_weight f t s (Expr-F.Equal at (weight_by f t s x) (weight_by f t s y))
unfolding weight_by bracket_weight_by
weight-equal f t s at x y = search (rules, the_lemmas)

pub weight-not_equal : (f : Templates) (t : Tables) (s : Scope) (at : ℕ) (x : Expr) (y : Expr) → weight_by f t s (e.NotEqual at x y) ≡ expr_weight f t s (Expr-F.NotEqual at (weight_by f t s x) (weight_by f t s y))
unfolding weight_by bracket_weight_by
weight-not_equal f t s at x y = search (rules, the_lemmas)

pub weight-and : (f : Templates) (t : Tables) (s : Scope) (at : ℕ) (xs : List Expr) → weight_by f t s (e.And at xs) ≡ expr_weight f t s (Expr-F.And at (map (weight_by f t s) xs))
unfolding weight_by bracket_weight_by
weight-and f t s at xs = search (rules, the_lemmas)

pub weight-or : (f : Templates) (t : Tables) (s : Scope) (at : ℕ) (xs : List Expr) → weight_by f t s (e.Or at xs) ≡ expr_weight f t s (Expr-F.Or at (map (weight_by f t s) xs))
unfolding weight_by bracket_weight_by
weight-or f t s at xs = search (rules, the_lemmas)

pub weight-implies : (f : Templates) (t : Tables) (s : Scope) (at : ℕ) (x : Expr) (y : Expr) → weight_by f t s (e.Implies at x y) ≡ expr_weight f t s (Expr-F.Implies at (weight_by f t s x) (weight_by f t s y))
unfolding weight_by bracket_weight_by
weight-implies f t s at x y = search (rules, the_lemmas)

pub weight-implied_by : (f : Templates) (t : Tables) (s : Scope) (at : ℕ) (xs : List Expr) → weight_by f t s (e.ImpliedBy at xs) ≡ expr_weight f t s (Expr-F.ImpliedBy at (map (weight_by f t s) xs))
unfolding weight_by bracket_weight_by
weight-implied_by f t s at xs = search (rules, the_lemmas)

pub weight-equivalent : (f : Templates) (t : Tables) (s : Scope) (at : ℕ) (xs : List Expr) → weight_by f t s (e.Equivalent at xs) ≡ expr_weight f t s (Expr-F.Equivalent at (map (weight_by f t s) xs))
unfolding weight_by bracket_weight_by
weight-equivalent f t s at xs = search (rules, the_lemmas)

pub weight-choice : (f : Templates) (t : Tables) (s : Scope) (at : ℕ) (x : Expr) (y : Expr) (z : Expr) → weight_by f t s (e.Choice at x y z) ≡ expr_weight f t s (Expr-F.Choice at (weight_by f t s x) (weight_by f t s y) (weight_by f t s z))
unfolding weight_by bracket_weight_by
weight-choice f t s at x y z = search (rules, the_lemmas)

pub weight-select : (f : Templates) (t : Tables) (s : Scope) (x : Expr) → bracket_weight_by f t s (brackets.Select x) ≡ bracket_weight (Bracket-F.Select (weight_by f t s x))
unfolding weight_by bracket_weight_by
weight-select f t s x = search (rules, the_lemmas)

pub weight-store : (f : Templates) (t : Tables) (s : Scope) (x : Expr) (y : Expr) → bracket_weight_by f t s (brackets.Store x y) ≡ bracket_weight (Bracket-F.Store (weight_by f t s x) (weight_by f t s y))
unfolding weight_by bracket_weight_by
weight-store f t s x y = search (rules, the_lemmas)

pub weight-extract : (f : Templates) (t : Tables) (s : Scope) (high : ℕ) (low : ℕ) → bracket_weight_by f t s (brackets.Extract high low) ≡ bracket_weight (Bracket-F.Extract high low)
unfolding weight_by bracket_weight_by
weight-extract f t s high low = search (rules, the_lemmas)

pub ruleset weights = (weight-true, weight-false, weight-literal, weight-variable, weight-concat, weight-and, weight-or, weight-implied_by, weight-equivalent, weight-extract)
