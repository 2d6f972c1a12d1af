-- Expressions by the outermost node, as an operand with its brackets.
use Rattle.std.proofs.Common.{◌≡◌, ℕ, List, [], ◌∷◌, ◌++◌, map, sym, ap, rules}
use Rattle.std.proofs.lemmas.List.{append-nil}
use Rattle.bpl_ast.specs.declared.expr.Bracket.{Bracket}
use Rattle.bpl_ast.specs.declared.expr.Bracket.TheFolds.{the_lemmas}
use Rattle.bpl_ast.specs.declared.expr.Bracket.TheOpen.{Bracket-F, Expr-F}
use Rattle.bpl_ast.specs.declared.expr.Bracket.TheVariants as brackets
use Rattle.bpl_ast.specs.declared.expr.Expr.{Expr}
use Rattle.bpl_ast.specs.declared.expr.Expr.TheVariants as e
use Rattle.bpl_ast.specs.declared.name.Name.{Name}
use Rattle.bpl_ast.specs.Alike.{Spine, spine, bare_bracket, expr_node, bracket_node}
use Rattle.bpl_parse.specs.Exprs.{post_of}

-- ---- the operand and its brackets

pub spine-true : (at : ℕ) → spine (e.True at) ≡ expr_node (Expr-F.True at)
unfolding spine bare_bracket
spine-true at = search (rules, the_lemmas)

pub spine-false : (at : ℕ) → spine (e.False at) ≡ expr_node (Expr-F.False at)
unfolding spine bare_bracket
spine-false at = search (rules, the_lemmas)

pub spine-literal : (at width bits : ℕ) → spine (e.Literal at width bits) ≡ expr_node (Expr-F.Literal at width bits)
unfolding spine bare_bracket
spine-literal at width bits = search (rules, the_lemmas)

pub spine-variable : (n : Name) → spine (e.Variable n) ≡ expr_node (Expr-F.Variable n)
unfolding spine bare_bracket
spine-variable n = search (rules, the_lemmas)

pub spine-apply : (f : Name) (xs : List Expr) → spine (e.Apply f xs) ≡ expr_node (Expr-F.Apply f (map spine xs))
unfolding spine bare_bracket
spine-apply f xs = search (rules, the_lemmas)

pub spine-post : (at : ℕ) (x : Expr) (bs : List Bracket) → spine (e.Post at x bs) ≡ expr_node (Expr-F.Post at (spine x) (map bare_bracket bs))
unfolding spine bare_bracket
spine-post at x bs = search (rules, the_lemmas)

pub spine-not : (at : ℕ) (x : Expr) → spine (e.Not at x) ≡ expr_node (Expr-F.Not at (spine x))
unfolding spine bare_bracket
spine-not at x = search (rules, the_lemmas)

pub spine-concat : (at : ℕ) (xs : List Expr) → spine (e.Concat at xs) ≡ expr_node (Expr-F.Concat at (map spine xs))
unfolding spine bare_bracket
spine-concat at xs = search (rules, the_lemmas)

pub spine-equal : (at : ℕ) (x y : Expr) → spine (e.Equal at x y) ≡ expr_node (Expr-F.Equal at (spine x) (spine y))
unfolding spine bare_bracket
spine-equal at x y = search (rules, the_lemmas)

pub spine-not_equal : (at : ℕ) (x y : Expr) → spine (e.NotEqual at x y) ≡ expr_node (Expr-F.NotEqual at (spine x) (spine y))
unfolding spine bare_bracket
spine-not_equal at x y = search (rules, the_lemmas)

pub spine-and : (at : ℕ) (xs : List Expr) → spine (e.And at xs) ≡ expr_node (Expr-F.And at (map spine xs))
unfolding spine bare_bracket
spine-and at xs = search (rules, the_lemmas)

pub spine-or : (at : ℕ) (xs : List Expr) → spine (e.Or at xs) ≡ expr_node (Expr-F.Or at (map spine xs))
unfolding spine bare_bracket
spine-or at xs = search (rules, the_lemmas)

pub spine-implies : (at : ℕ) (x y : Expr) → spine (e.Implies at x y) ≡ expr_node (Expr-F.Implies at (spine x) (spine y))
unfolding spine bare_bracket
spine-implies at x y = search (rules, the_lemmas)

pub spine-implied_by : (at : ℕ) (xs : List Expr) → spine (e.ImpliedBy at xs) ≡ expr_node (Expr-F.ImpliedBy at (map spine xs))
unfolding spine bare_bracket
spine-implied_by at xs = search (rules, the_lemmas)

pub spine-equivalent : (at : ℕ) (xs : List Expr) → spine (e.Equivalent at xs) ≡ expr_node (Expr-F.Equivalent at (map spine xs))
unfolding spine bare_bracket
spine-equivalent at xs = search (rules, the_lemmas)

pub spine-choice : (at : ℕ) (x y z : Expr) → spine (e.Choice at x y z) ≡ expr_node (Expr-F.Choice at (spine x) (spine y) (spine z))
unfolding spine bare_bracket
spine-choice at x y z = search (rules, the_lemmas)

pub bare-select : (x : Expr) → bare_bracket (brackets.Select x) ≡ bracket_node (Bracket-F.Select (spine x))
unfolding spine bare_bracket
bare-select x = search (rules, the_lemmas)

pub bare-store : (x y : Expr) → bare_bracket (brackets.Store x y) ≡ bracket_node (Bracket-F.Store (spine x) (spine y))
unfolding spine bare_bracket
bare-store x y = search (rules, the_lemmas)

pub bare-extract : (high low : ℕ) → bare_bracket (brackets.Extract high low) ≡ bracket_node (Bracket-F.Extract high low)
unfolding spine bare_bracket
bare-extract high low = search (rules, the_lemmas)

-- more brackets after an operand
abbrev pub with_brackets : Spine → List Bracket → Spine
with_brackets x bs = record { operand = x.operand; brackets = x.brackets ++ bs }

no_more : (x : Spine) → x ≡ with_brackets x []
no_more x = ap (λ (bs : List Bracket). let y : Spine = record { operand = x.operand; brackets = bs } in y) (sym (append-nil x.brackets))

pub post_spine : (at : ℕ) (x : Expr) (bs : List Bracket) → spine (post_of at (x, bs)) ≡ with_brackets (spine x) (map bare_bracket bs)
post_spine at x [] = no_more (spine x)
post_spine at x (b ∷ bs) = spine-post at x (b ∷ bs)
