-- What is told of an expression, by its outermost node.
use Rattle.std.proofs.Common.{◌≡◌, ℕ, List, map, ap, rules}
use Rattle.bpl_ast.specs.declared.expr.Bracket.{Bracket}
use Rattle.bpl_ast.specs.declared.expr.Bracket.TheFolds.{the_lemmas}
use Rattle.bpl_ast.specs.declared.expr.Bracket.TheOpen.{Bracket-F, Expr-F}
use Rattle.bpl_ast.specs.declared.expr.Bracket.TheVariants as brackets
use Rattle.bpl_ast.specs.declared.expr.Expr.{Expr}
use Rattle.bpl_ast.specs.declared.expr.Expr.TheVariants as e
use Rattle.bpl_ast.specs.declared.name.Name.{Name}
use Rattle.type_pass.specs.declared.tables.Scope.{Scope}
use Rattle.type_pass.specs.declared.tables.Tables.{Tables}
use Rattle.type_pass.specs.ExprSorts.{Part, part, bracket_node, bracket_part, part_node}

pub part-true : (t : Tables) (s : Scope) (at : ℕ) → part t s (e.True at) ≡ part_node t s (Expr-F.True at)
unfolding part bracket_part
part-true t s at = search (rules, the_lemmas)

pub part-false : (t : Tables) (s : Scope) (at : ℕ) → part t s (e.False at) ≡ part_node t s (Expr-F.False at)
unfolding part bracket_part
part-false t s at = search (rules, the_lemmas)

pub part-literal : (t : Tables) (s : Scope) (at : ℕ) (width : ℕ) (bits : ℕ) → part t s (e.Literal at width bits) ≡ part_node t s (Expr-F.Literal at width bits)
unfolding part bracket_part
part-literal t s at width bits = search (rules, the_lemmas)

pub part-variable : (t : Tables) (s : Scope) (n : Name) → part t s (e.Variable n) ≡ part_node t s (Expr-F.Variable n)
unfolding part bracket_part
part-variable t s n = search (rules, the_lemmas)

pub part-apply : (t : Tables) (s : Scope) (f : Name) (xs : List Expr) → part t s (e.Apply f xs) ≡ part_node t s (Expr-F.Apply f (map (part t s) xs))
unfolding part bracket_part
part-apply t s f xs = search (rules, the_lemmas)

pub part-post : (t : Tables) (s : Scope) (at : ℕ) (x : Expr) (bs : List Bracket) → part t s (e.Post at x bs) ≡ part_node t s (Expr-F.Post at (part t s x) (map (bracket_part t s) bs))
unfolding part bracket_part
part-post t s at x bs = search (rules, the_lemmas)

pub part-not : (t : Tables) (s : Scope) (at : ℕ) (x : Expr) → part t s (e.Not at x) ≡ part_node t s (Expr-F.Not at (part t s x))
unfolding part bracket_part
part-not t s at x = search (rules, the_lemmas)

pub part-concat : (t : Tables) (s : Scope) (at : ℕ) (xs : List Expr) → part t s (e.Concat at xs) ≡ part_node t s (Expr-F.Concat at (map (part t s) xs))
unfolding part bracket_part
part-concat t s at xs = search (rules, the_lemmas)

pub part-equal : (t : Tables) (s : Scope) (at : ℕ) (x : Expr) (y : Expr) → part t s (e.Equal at x y) ≡ part_node t s (Expr-F.Equal at (part t s x) (part t s y))
unfolding part bracket_part
part-equal t s at x y = search (rules, the_lemmas)

pub part-not_equal : (t : Tables) (s : Scope) (at : ℕ) (x : Expr) (y : Expr) → part t s (e.NotEqual at x y) ≡ part_node t s (Expr-F.NotEqual at (part t s x) (part t s y))
unfolding part bracket_part
part-not_equal t s at x y = search (rules, the_lemmas)

pub part-and : (t : Tables) (s : Scope) (at : ℕ) (xs : List Expr) → part t s (e.And at xs) ≡ part_node t s (Expr-F.And at (map (part t s) xs))
unfolding part bracket_part
part-and t s at xs = search (rules, the_lemmas)

pub part-or : (t : Tables) (s : Scope) (at : ℕ) (xs : List Expr) → part t s (e.Or at xs) ≡ part_node t s (Expr-F.Or at (map (part t s) xs))
unfolding part bracket_part
part-or t s at xs = search (rules, the_lemmas)

pub part-implies : (t : Tables) (s : Scope) (at : ℕ) (x : Expr) (y : Expr) → part t s (e.Implies at x y) ≡ part_node t s (Expr-F.Implies at (part t s x) (part t s y))
unfolding part bracket_part
part-implies t s at x y = search (rules, the_lemmas)

pub part-implied_by : (t : Tables) (s : Scope) (at : ℕ) (xs : List Expr) → part t s (e.ImpliedBy at xs) ≡ part_node t s (Expr-F.ImpliedBy at (map (part t s) xs))
unfolding part bracket_part
part-implied_by t s at xs = search (rules, the_lemmas)

pub part-equivalent : (t : Tables) (s : Scope) (at : ℕ) (xs : List Expr) → part t s (e.Equivalent at xs) ≡ part_node t s (Expr-F.Equivalent at (map (part t s) xs))
unfolding part bracket_part
part-equivalent t s at xs = search (rules, the_lemmas)

pub part-choice : (t : Tables) (s : Scope) (at : ℕ) (x : Expr) (y : Expr) (z : Expr) → part t s (e.Choice at x y z) ≡ part_node t s (Expr-F.Choice at (part t s x) (part t s y) (part t s z))
unfolding part bracket_part
part-choice t s at x y z = search (rules, the_lemmas)

pub part-select : (t : Tables) (s : Scope) (x : Expr) → bracket_part t s (brackets.Select x) ≡ bracket_node (Bracket-F.Select (part t s x))
unfolding part bracket_part
part-select t s x = search (rules, the_lemmas)

pub part-store : (t : Tables) (s : Scope) (x : Expr) (y : Expr) → bracket_part t s (brackets.Store x y) ≡ bracket_node (Bracket-F.Store (part t s x) (part t s y))
unfolding part bracket_part
part-store t s x y = search (rules, the_lemmas)

pub part-extract : (t : Tables) (s : Scope) (high : ℕ) (low : ℕ) → bracket_part t s (brackets.Extract high low) ≡ bracket_node (Bracket-F.Extract high low)
unfolding part bracket_part
part-extract t s high low = search (rules, the_lemmas)

pub ruleset parts = (part-true, part-false, part-literal, part-variable, part-apply, part-post, part-not, part-concat, part-equal, part-not_equal, part-and, part-or, part-implies, part-implied_by, part-equivalent, part-choice)

-- what the brackets make of a part

pub on-select : (t : Tables) (s : Scope) (x : Expr) (at : ℕ) (p : Part) → bracket_part t s (brackets.Select x) at p ≡ bracket_node (Bracket-F.Select (part t s x)) at p
on-select t s x at p = ap (λ f. f at p) (part-select t s x)

pub on-store : (t : Tables) (s : Scope) (x y : Expr) (at : ℕ) (p : Part) → bracket_part t s (brackets.Store x y) at p ≡ bracket_node (Bracket-F.Store (part t s x) (part t s y)) at p
on-store t s x y at p = ap (λ f. f at p) (part-store t s x y)

pub on-extract : (t : Tables) (s : Scope) (high low at : ℕ) (p : Part) → bracket_part t s (brackets.Extract high low) at p ≡ bracket_node (Bracket-F.Extract high low) at p
on-extract t s high low at p = ap (λ f. f at p) (part-extract t s high low)
