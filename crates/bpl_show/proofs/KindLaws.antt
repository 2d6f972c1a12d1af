-- Parentheses stand around an expression exactly where it is of a wider kind than its place asks for.
use Rattle.std.proofs.Common.{◌≡◌, ◌<◌, ◌≤◌, arith, ℕ, true, false, nat_lt, List, ◌++◌, ap, sym, ◌∙◌, refl, rules}
use Rattle.std.specs.Prelude.{codes}
use Rattle.std.proofs.lemmas.Bool.Decides.{nat_tests}
use Rattle.bpl_ast.specs.declared.expr.Bracket.{Bracket}
use Rattle.bpl_ast.specs.declared.expr.Bracket.TheFolds.{map-Expr, the_lemmas}
use Rattle.bpl_ast.specs.declared.expr.Bracket.TheOpen.{Expr-F}
use Rattle.bpl_ast.specs.declared.expr.Expr.{Expr, out-Expr}
use Rattle.bpl_ast.specs.declared.expr.Expr.TheVariants as e
use Rattle.bpl_ast.specs.declared.name.Name.{Name}
use Rattle.bpl_show.specs.declared.phrase.Phrase.{Phrase}
use Rattle.bpl_show.specs.declared.phrase.Phrase.TheVariants.{Whole, Equivalence, Implication, Logic, Relation, Concatenation, Unary, Operand}
use Rattle.bpl_show.specs.Exprs.{Shown, expr, expr_node, bracket, bare, placed, kind, kind_of, rank, whole}
use Rattle.bpl_show.specs.Tokens.{Token, word}

kind_same : {B E C F : Type 0} (b : B → C) (v : E → F) (y : Expr-F B E) → kind_of (map-Expr B E C F b v y) ≡ kind_of y
kind_same b v (Expr-F.True at) = refl
kind_same b v (Expr-F.False at) = refl
kind_same b v (Expr-F.Literal at width bits) = refl
kind_same b v (Expr-F.Variable n) = refl
kind_same b v (Expr-F.Apply f xs) = refl
kind_same b v (Expr-F.Post at x bs) = refl
kind_same b v (Expr-F.Not at x) = refl
kind_same b v (Expr-F.Concat at xs) = refl
kind_same b v (Expr-F.Equal at x y) = refl
kind_same b v (Expr-F.NotEqual at x y) = refl
kind_same b v (Expr-F.And at xs) = refl
kind_same b v (Expr-F.Or at xs) = refl
kind_same b v (Expr-F.Implies at x y) = refl
kind_same b v (Expr-F.ImpliedBy at xs) = refl
kind_same b v (Expr-F.Equivalent at xs) = refl
kind_same b v (Expr-F.Choice at x y z) = refl

-- nothing is wider than any expression
none_wider : (own : Phrase) → nat_lt (rank own) 0 ≡ false
none_wider Whole = refl
none_wider Equivalence = refl
none_wider Implication = refl
none_wider Logic = refl
none_wider Relation = refl
none_wider Concatenation = refl
none_wider Unary = refl
none_wider Operand = refl

abbrev shown_node : Expr → Expr-F (List Token) Shown
shown_node x = map-Expr Bracket Expr (List Token) Shown bracket expr (out-Expr x)

expr-node : (x : Expr) (asked : Phrase) → expr x asked ≡ expr_node (shown_node x) asked
unfolding expr bracket
expr-node x asked = search (rules, the_lemmas)

kind-node : (x : Expr) → kind_of (shown_node x) ≡ kind x
unfolding kind
kind-node x = kind_same bracket expr (out-Expr x)

whole-node : (x : Expr) → whole x ≡ bare (shown_node x)
whole-node x = expr-node x Whole ∙ rw (none_wider (kind_of (shown_node x))) refl

expr-placed : (x : Expr) (asked : Phrase) → expr x asked ≡ placed (kind x) asked (whole x)
expr-placed x asked = expr-node x asked ∙ ap (λ k. placed k asked (bare (shown_node x))) (kind-node x) ∙ ap (placed (kind x) asked) (sym (whole-node x))

in_parentheses : (x : Expr) (asked : Phrase) → nat_lt (rank (kind x)) (rank asked) ≡ true → expr x asked ≡ word (codes "(") ++ whole x ++ word (codes ")")
in_parentheses x asked wider = expr-placed x asked ∙ rw wider refl

without_parentheses : (x : Expr) (asked : Phrase) → nat_lt (rank (kind x)) (rank asked) ≡ false → expr x asked ≡ whole x
without_parentheses x asked narrow = expr-placed x asked ∙ rw narrow refl

-- the same by the numbers of the kinds

pub shown_wide : (x : Expr) (asked k : Phrase) (m n : ℕ) → k ≡ kind x → m ≡ rank k → n ≡ rank asked → m < n → expr x asked ≡ word (codes "(") ++ whole x ++ word (codes ")")
shown_wide x asked k m n ek em en less =
    let tested : nat_lt m n ≡ true = grind (arith, nat_tests) in
    let same : rank (kind x) ≡ m = ap rank (sym ek) ∙ sym em in
    in_parentheses x asked (ap (λ i. nat_lt i (rank asked)) same ∙ ap (nat_lt m) (sym en) ∙ tested)

pub shown_narrow : (x : Expr) (asked k : Phrase) (m n : ℕ) → k ≡ kind x → m ≡ rank k → n ≡ rank asked → n ≤ m → expr x asked ≡ whole x
shown_narrow x asked k m n ek em en more =
    let tested : nat_lt m n ≡ false = grind (arith, nat_tests) in
    let same : rank (kind x) ≡ m = ap rank (sym ek) ∙ sym em in
    without_parentheses x asked (ap (λ i. nat_lt i (rank asked)) same ∙ ap (nat_lt m) (sym en) ∙ tested)

-- ---- the kind of each node

pub kind-true : (at : ℕ) → kind (e.True at) ≡ Operand
unfolding kind
kind-true at = search (rules, the_lemmas)

pub kind-false : (at : ℕ) → kind (e.False at) ≡ Operand
unfolding kind
kind-false at = search (rules, the_lemmas)

pub kind-literal : (at width bits : ℕ) → kind (e.Literal at width bits) ≡ Operand
unfolding kind
kind-literal at width bits = search (rules, the_lemmas)

pub kind-variable : (n : Name) → kind (e.Variable n) ≡ Operand
unfolding kind
kind-variable n = search (rules, the_lemmas)

pub kind-apply : (f : Name) (xs : List Expr) → kind (e.Apply f xs) ≡ Operand
unfolding kind
kind-apply f xs = search (rules, the_lemmas)

pub kind-post : (at : ℕ) (x : Expr) (bs : List Bracket) → kind (e.Post at x bs) ≡ Operand
unfolding kind
kind-post at x bs = search (rules, the_lemmas)

pub kind-not : (at : ℕ) (x : Expr) → kind (e.Not at x) ≡ Unary
unfolding kind
kind-not at x = search (rules, the_lemmas)

pub kind-concat : (at : ℕ) (xs : List Expr) → kind (e.Concat at xs) ≡ Concatenation
unfolding kind
kind-concat at xs = search (rules, the_lemmas)

pub kind-equal : (at : ℕ) (x y : Expr) → kind (e.Equal at x y) ≡ Relation
unfolding kind
kind-equal at x y = search (rules, the_lemmas)

pub kind-not_equal : (at : ℕ) (x y : Expr) → kind (e.NotEqual at x y) ≡ Relation
unfolding kind
kind-not_equal at x y = search (rules, the_lemmas)

pub kind-and : (at : ℕ) (xs : List Expr) → kind (e.And at xs) ≡ Logic
unfolding kind
kind-and at xs = search (rules, the_lemmas)

pub kind-or : (at : ℕ) (xs : List Expr) → kind (e.Or at xs) ≡ Logic
unfolding kind
kind-or at xs = search (rules, the_lemmas)

pub kind-implies : (at : ℕ) (x y : Expr) → kind (e.Implies at x y) ≡ Implication
unfolding kind
kind-implies at x y = search (rules, the_lemmas)

pub kind-implied_by : (at : ℕ) (xs : List Expr) → kind (e.ImpliedBy at xs) ≡ Implication
unfolding kind
kind-implied_by at xs = search (rules, the_lemmas)

pub kind-equivalent : (at : ℕ) (xs : List Expr) → kind (e.Equivalent at xs) ≡ Equivalence
unfolding kind
kind-equivalent at xs = search (rules, the_lemmas)

pub kind-choice : (at : ℕ) (x y z : Expr) → kind (e.Choice at x y z) ≡ Whole
unfolding kind
kind-choice at x y z = search (rules, the_lemmas)

pub ruleset kinds = (kind-true, kind-false, kind-literal, kind-variable, kind-apply, kind-post, kind-not, kind-concat, kind-equal, kind-not_equal, kind-and, kind-or, kind-implies, kind-implied_by, kind-equivalent, kind-choice)
