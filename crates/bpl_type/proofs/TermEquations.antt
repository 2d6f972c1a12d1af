-- The term of an expression, by its outermost node.
use Rattle.std.proofs.Common.{◌≡◌, ℕ, List, map, ap, rules}
use Rattle.bpl_ast.specs.declared.expr.Bracket.{Bracket}
use Rattle.bpl_ast.specs.declared.expr.Bracket.TheFolds.{the_lemmas}
use Rattle.bpl_ast.specs.declared.expr.Bracket.TheOpen.{Bracket-F, Expr-F}
use Rattle.bpl_ast.specs.declared.expr.Bracket.TheVariants as brackets
use Rattle.bpl_ast.specs.declared.expr.Expr.{Expr}
use Rattle.bpl_ast.specs.declared.expr.Expr.TheVariants as e
use Rattle.bpl_ast.specs.declared.name.Name.{Name}
use Rattle.type_pass.specs.declared.tables.Scope.{Scope}
use Rattle.type_pass.specs.declared.tables.Tables.{Tables}
use Rattle.type_pass.specs.Replaced.{Use, term_by, bracket_term, bracket_node, term_node}
use Rattle.type_pass.specs.Terms.{Term}

pub term-true : (u : Use) (t : Tables) (s : Scope) (at : ℕ) → term_by u t s (e.True at) ≡ term_node u t s (Expr-F.True at)
unfolding term_by bracket_term
term-true u t s at = search (rules, the_lemmas)

pub term-false : (u : Use) (t : Tables) (s : Scope) (at : ℕ) → term_by u t s (e.False at) ≡ term_node u t s (Expr-F.False at)
unfolding term_by bracket_term
term-false u t s at = search (rules, the_lemmas)

pub term-literal : (u : Use) (t : Tables) (s : Scope) (at : ℕ) (width : ℕ) (bits : ℕ) → term_by u t s (e.Literal at width bits) ≡ term_node u t s (Expr-F.Literal at width bits)
unfolding term_by bracket_term
term-literal u t s at width bits = search (rules, the_lemmas)

pub term-variable : (u : Use) (t : Tables) (s : Scope) (n : Name) → term_by u t s (e.Variable n) ≡ term_node u t s (Expr-F.Variable n)
unfolding term_by bracket_term
term-variable u t s n = search (rules, the_lemmas)

pub term-apply : (u : Use) (t : Tables) (s : Scope) (f : Name) (xs : List Expr) → term_by u t s (e.Apply f xs) ≡ term_node u t s (Expr-F.Apply f (map (term_by u t s) xs))
unfolding term_by bracket_term
term-apply u t s f xs = search (rules, the_lemmas)

pub term-post : (u : Use) (t : Tables) (s : Scope) (at : ℕ) (x : Expr) (bs : List Bracket) → term_by u t s (e.Post at x bs) ≡ term_node u t s (Expr-F.Post at (term_by u t s x) (map (bracket_term u t s) bs))
unfolding term_by bracket_term
term-post u t s at x bs = search (rules, the_lemmas)

pub term-not : (u : Use) (t : Tables) (s : Scope) (at : ℕ) (x : Expr) → term_by u t s (e.Not at x) ≡ term_node u t s (Expr-F.Not at (term_by u t s x))
unfolding term_by bracket_term
term-not u t s at x = search (rules, the_lemmas)

pub term-concat : (u : Use) (t : Tables) (s : Scope) (at : ℕ) (xs : List Expr) → term_by u t s (e.Concat at xs) ≡ term_node u t s (Expr-F.Concat at (map (term_by u t s) xs))
unfolding term_by bracket_term
term-concat u t s at xs = search (rules, the_lemmas)

pub term-equal : (u : Use) (t : Tables) (s : Scope) (at : ℕ) (x : Expr) (y : Expr) → term_by u t s (e.Equal at x y) ≡ term_node u t s (Expr-F.Equal at (term_by u t s x) (term_by u t s y))
unfolding term_by bracket_term
term-equal u t s at x y = search (rules, the_lemmas)

pub term-not_equal : (u : Use) (t : Tables) (s : Scope) (at : ℕ) (x : Expr) (y : Expr) → term_by u t s (e.NotEqual at x y) ≡ term_node u t s (Expr-F.NotEqual at (term_by u t s x) (term_by u t s y))
unfolding term_by bracket_term
term-not_equal u t s at x y = search (rules, the_lemmas)

pub term-and : (u : Use) (t : Tables) (s : Scope) (at : ℕ) (xs : List Expr) → term_by u t s (e.And at xs) ≡ term_node u t s (Expr-F.And at (map (term_by u t s) xs))
unfolding term_by bracket_term
term-and u t s at xs = search (rules, the_lemmas)

pub term-or : (u : Use) (t : Tables) (s : Scope) (at : ℕ) (xs : List Expr) → term_by u t s (e.Or at xs) ≡ term_node u t s (Expr-F.Or at (map (term_by u t s) xs))
unfolding term_by bracket_term
term-or u t s at xs = search (rules, the_lemmas)

pub term-implies : (u : Use) (t : Tables) (s : Scope) (at : ℕ) (x : Expr) (y : Expr) → term_by u t s (e.Implies at x y) ≡ term_node u t s (Expr-F.Implies at (term_by u t s x) (term_by u t s y))
unfolding term_by bracket_term
term-implies u t s at x y = search (rules, the_lemmas)

pub term-implied_by : (u : Use) (t : Tables) (s : Scope) (at : ℕ) (xs : List Expr) → term_by u t s (e.ImpliedBy at xs) ≡ term_node u t s (Expr-F.ImpliedBy at (map (term_by u t s) xs))
unfolding term_by bracket_term
term-implied_by u t s at xs = search (rules, the_lemmas)

pub term-equivalent : (u : Use) (t : Tables) (s : Scope) (at : ℕ) (xs : List Expr) → term_by u t s (e.Equivalent at xs) ≡ term_node u t s (Expr-F.Equivalent at (map (term_by u t s) xs))
unfolding term_by bracket_term
term-equivalent u t s at xs = search (rules, the_lemmas)

pub term-choice : (u : Use) (t : Tables) (s : Scope) (at : ℕ) (x : Expr) (y : Expr) (z : Expr) → term_by u t s (e.Choice at x y z) ≡ term_node u t s (Expr-F.Choice at (term_by u t s x) (term_by u t s y) (term_by u t s z))
unfolding term_by bracket_term
term-choice u t s at x y z = search (rules, the_lemmas)

pub term-select : (u : Use) (t : Tables) (s : Scope) (x : Expr) → bracket_term u t s (brackets.Select x) ≡ bracket_node (Bracket-F.Select (term_by u t s x))
unfolding term_by bracket_term
term-select u t s x = search (rules, the_lemmas)

pub term-store : (u : Use) (t : Tables) (s : Scope) (x : Expr) (y : Expr) → bracket_term u t s (brackets.Store x y) ≡ bracket_node (Bracket-F.Store (term_by u t s x) (term_by u t s y))
unfolding term_by bracket_term
term-store u t s x y = search (rules, the_lemmas)

pub term-extract : (u : Use) (t : Tables) (s : Scope) (high : ℕ) (low : ℕ) → bracket_term u t s (brackets.Extract high low) ≡ bracket_node (Bracket-F.Extract high low)
unfolding term_by bracket_term
term-extract u t s high low = search (rules, the_lemmas)

-- what the brackets make of a term

pub on-select : (u : Use) (t : Tables) (s : Scope) (x : Expr) (a : Term) → bracket_term u t s (brackets.Select x) a ≡ bracket_node (Bracket-F.Select (term_by u t s x)) a
on-select u t s x a = ap (λ f. f a) (term-select u t s x)

pub on-store : (u : Use) (t : Tables) (s : Scope) (x y : Expr) (a : Term) → bracket_term u t s (brackets.Store x y) a ≡ bracket_node (Bracket-F.Store (term_by u t s x) (term_by u t s y)) a
on-store u t s x y a = ap (λ f. f a) (term-store u t s x y)

pub on-extract : (u : Use) (t : Tables) (s : Scope) (high low : ℕ) (a : Term) → bracket_term u t s (brackets.Extract high low) a ≡ bracket_node (Bracket-F.Extract high low) a
on-extract u t s high low a = ap (λ f. f a) (term-extract u t s high low)

pub ruleset terms = (term-true, term-false, term-literal, term-variable, term-apply, term-post, term-not, term-concat, term-equal, term-not_equal, term-and, term-or, term-implies, term-implied_by, term-equivalent, term-choice, on-select, on-store, on-extract)
