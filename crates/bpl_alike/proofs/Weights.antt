-- How many nodes expressions and brackets have.
use Rattle.std.proofs.Common.{◌≡◌, ℕ, ◌+◌, List, map, sum, ap, ◌∙◌, rules}
use Rattle.std.specs.List.{sum_by}
use Rattle.std.proofs.lemmas.List.Sums.{sum-map}
use Rattle.bpl_ast.specs.declared.expr.Bracket.{Bracket}
use Rattle.bpl_ast.specs.declared.expr.Bracket.TheFolds.{the_lemmas, fold-Bracket, fold-Expr}
use Rattle.bpl_ast.specs.declared.expr.Bracket.TheOpen.{Bracket-F, Expr-F}
use Rattle.bpl_ast.specs.declared.expr.Bracket.TheVariants as brackets
use Rattle.bpl_ast.specs.declared.expr.Expr.{Expr}
use Rattle.bpl_ast.specs.declared.expr.Expr.TheVariants as e
use Rattle.bpl_ast.specs.declared.name.Name.{Name}

abbrev pub bracket_nodes : Bracket-F ℕ ℕ → ℕ
bracket_nodes (Bracket-F.Select index) = 1 + index
bracket_nodes (Bracket-F.Store index value) = 1 + index + value
bracket_nodes (Bracket-F.Extract high low) = 1

abbrev pub expr_nodes : Expr-F ℕ ℕ → ℕ
expr_nodes (Expr-F.True at) = 1
expr_nodes (Expr-F.False at) = 1
expr_nodes (Expr-F.Literal at width bits) = 1
expr_nodes (Expr-F.Variable name) = 1
expr_nodes (Expr-F.Apply f xs) = 1 + sum xs
expr_nodes (Expr-F.Post at x bs) = 1 + x + sum bs
expr_nodes (Expr-F.Not at x) = 1 + x
expr_nodes (Expr-F.Concat at xs) = 1 + sum xs
expr_nodes (Expr-F.Equal at x y) = 1 + x + y
expr_nodes (Expr-F.NotEqual at x y) = 1 + x + y
expr_nodes (Expr-F.And at xs) = 1 + sum xs
expr_nodes (Expr-F.Or at xs) = 1 + sum xs
expr_nodes (Expr-F.Implies at x y) = 1 + x + y
expr_nodes (Expr-F.ImpliedBy at xs) = 1 + sum xs
expr_nodes (Expr-F.Equivalent at xs) = 1 + sum xs
expr_nodes (Expr-F.Choice at x y z) = 1 + x + y + z

unfoldable pub weight : Expr → ℕ
weight = fold-Expr ℕ ℕ bracket_nodes expr_nodes

unfoldable pub bracket_weight : Bracket → ℕ
bracket_weight = fold-Bracket ℕ ℕ bracket_nodes expr_nodes

pub weight-apply : (f : Name) (xs : List Expr) → weight (e.Apply f xs) ≡ 1 + sum_by weight xs
unfolding weight bracket_weight
weight-apply f xs =
    let got : weight (e.Apply f xs) ≡ 1 + sum (map weight xs) = search (rules, the_lemmas) in
    got ∙ ap (λ n. 1 + n) (sum-map weight xs)

pub weight-post : (at : ℕ) (x : Expr) (bs : List Bracket) → weight (e.Post at x bs) ≡ 1 + weight x + sum_by bracket_weight bs
unfolding weight bracket_weight
weight-post at x bs =
    let got : weight (e.Post at x bs) ≡ 1 + weight x + sum (map bracket_weight bs) = search (rules, the_lemmas) in
    got ∙ ap (λ n. 1 + weight x + n) (sum-map bracket_weight bs)

pub weight-not : (at : ℕ) (x : Expr) → weight (e.Not at x) ≡ 1 + weight x
unfolding weight bracket_weight
weight-not at x = search (rules, the_lemmas)

pub weight-concat : (at : ℕ) (xs : List Expr) → weight (e.Concat at xs) ≡ 1 + sum_by weight xs
unfolding weight bracket_weight
weight-concat at xs =
    let got : weight (e.Concat at xs) ≡ 1 + sum (map weight xs) = search (rules, the_lemmas) in
    got ∙ ap (λ n. 1 + n) (sum-map weight xs)

pub weight-equal : (at : ℕ) (x y : Expr) → weight (e.Equal at x y) ≡ 1 + weight x + weight y
unfolding weight bracket_weight
weight-equal at x y = search (rules, the_lemmas)

pub weight-not_equal : (at : ℕ) (x y : Expr) → weight (e.NotEqual at x y) ≡ 1 + weight x + weight y
unfolding weight bracket_weight
weight-not_equal at x y = search (rules, the_lemmas)

pub weight-and : (at : ℕ) (xs : List Expr) → weight (e.And at xs) ≡ 1 + sum_by weight xs
unfolding weight bracket_weight
weight-and at xs =
    let got : weight (e.And at xs) ≡ 1 + sum (map weight xs) = search (rules, the_lemmas) in
    got ∙ ap (λ n. 1 + n) (sum-map weight xs)

pub weight-or : (at : ℕ) (xs : List Expr) → weight (e.Or at xs) ≡ 1 + sum_by weight xs
unfolding weight bracket_weight
weight-or at xs =
    let got : weight (e.Or at xs) ≡ 1 + sum (map weight xs) = search (rules, the_lemmas) in
    got ∙ ap (λ n. 1 + n) (sum-map weight xs)

pub weight-implies : (at : ℕ) (x y : Expr) → weight (e.Implies at x y) ≡ 1 + weight x + weight y
unfolding weight bracket_weight
weight-implies at x y = search (rules, the_lemmas)

pub weight-implied_by : (at : ℕ) (xs : List Expr) → weight (e.ImpliedBy at xs) ≡ 1 + sum_by weight xs
unfolding weight bracket_weight
weight-implied_by at xs =
    let got : weight (e.ImpliedBy at xs) ≡ 1 + sum (map weight xs) = search (rules, the_lemmas) in
    got ∙ ap (λ n. 1 + n) (sum-map weight xs)

pub weight-equivalent : (at : ℕ) (xs : List Expr) → weight (e.Equivalent at xs) ≡ 1 + sum_by weight xs
unfolding weight bracket_weight
weight-equivalent at xs =
    let got : weight (e.Equivalent at xs) ≡ 1 + sum (map weight xs) = search (rules, the_lemmas) in
    got ∙ ap (λ n. 1 + n) (sum-map weight xs)

pub weight-choice : (at : ℕ) (x y z : Expr) → weight (e.Choice at x y z) ≡ 1 + weight x + weight y + weight z
unfolding weight bracket_weight
weight-choice at x y z = search (rules, the_lemmas)

pub weight-select : (index : Expr) → bracket_weight (brackets.Select index) ≡ 1 + weight index
unfolding weight bracket_weight
weight-select index = search (rules, the_lemmas)

pub weight-store : (index value : Expr) → bracket_weight (brackets.Store index value) ≡ 1 + weight index + weight value
unfolding weight bracket_weight
weight-store index value = search (rules, the_lemmas)
