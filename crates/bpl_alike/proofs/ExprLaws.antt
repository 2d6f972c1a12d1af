-- When two expressions that are no operands with brackets are alike, by their outermost nodes.
use Rattle.std.proofs.Common.{◌≡◌, ℕ, List, [], ◌∷◌, map, Bool, true, false, refl, ap, sym, ◌∙◌, rules, ◌↔◌}
use Rattle.bpl_ast.specs.Alike.{Spine, alone, bare_bracket, bare_expr, bare_name, spine, whole}
use Rattle.bpl_ast.specs.declared.expr.Bracket.{Bracket}
use Rattle.bpl_ast.specs.declared.expr.Bracket.TheFolds.{the_lemmas}
use Rattle.bpl_ast.specs.declared.expr.Bracket.TheOpen.{Expr-F}
use Rattle.bpl_ast.specs.declared.expr.Expr.{Expr, out-Expr, roll-Expr}
use Rattle.bpl_ast.specs.declared.expr.Expr.TheVariants as e
use Rattle.bpl_ast.specs.declared.expr.Expr.TheVariants.{rolls-Post}
use Rattle.bpl_ast.specs.declared.name.Name.{Name}
use Rattle.bpl_alike.specs.Groups.{NoPost}

-- a node whose offsets are 0 and whose children are bare
abbrev pub layer : Expr-F Bracket Expr → Expr-F Bracket Expr
layer (Expr-F.True at) = Expr-F.True 0
layer (Expr-F.False at) = Expr-F.False 0
layer (Expr-F.Literal at width bits) = Expr-F.Literal 0 width bits
layer (Expr-F.Variable name) = Expr-F.Variable (bare_name name)
layer (Expr-F.Apply f xs) = Expr-F.Apply (bare_name f) (map bare_expr xs)
layer (Expr-F.Post at x bs) = Expr-F.Post 0 x bs
layer (Expr-F.Not at x) = Expr-F.Not 0 (bare_expr x)
layer (Expr-F.Concat at xs) = Expr-F.Concat 0 (map bare_expr xs)
layer (Expr-F.Equal at x y) = Expr-F.Equal 0 (bare_expr x) (bare_expr y)
layer (Expr-F.NotEqual at x y) = Expr-F.NotEqual 0 (bare_expr x) (bare_expr y)
layer (Expr-F.And at xs) = Expr-F.And 0 (map bare_expr xs)
layer (Expr-F.Or at xs) = Expr-F.Or 0 (map bare_expr xs)
layer (Expr-F.Implies at x y) = Expr-F.Implies 0 (bare_expr x) (bare_expr y)
layer (Expr-F.ImpliedBy at xs) = Expr-F.ImpliedBy 0 (map bare_expr xs)
layer (Expr-F.Equivalent at xs) = Expr-F.Equivalent 0 (map bare_expr xs)
layer (Expr-F.Choice at x y z) = Expr-F.Choice 0 (bare_expr x) (bare_expr y) (bare_expr z)

-- no operand with brackets behind it
abbrev pub IsPlain : Expr-F Bracket Expr → Type 0
IsPlain (Expr-F.Post at x bs) = ⊥
IsPlain _ = Unit {0}

twice : (xs : List Expr) → map whole (map spine xs) ≡ map bare_expr xs
twice [] = refl
twice (x ∷ xs) = ap (λ more. bare_expr x ∷ more) (twice xs)

spine-true : (at : ℕ) → spine (roll-Expr (Expr-F.True at)) ≡ alone (roll-Expr (layer (Expr-F.True at)))
unfolding spine bare_bracket
spine-true at = search (rules, the_lemmas)

spine-false : (at : ℕ) → spine (roll-Expr (Expr-F.False at)) ≡ alone (roll-Expr (layer (Expr-F.False at)))
unfolding spine bare_bracket
spine-false at = search (rules, the_lemmas)

spine-literal : (at width bits : ℕ) → spine (roll-Expr (Expr-F.Literal at width bits)) ≡ alone (roll-Expr (layer (Expr-F.Literal at width bits)))
unfolding spine bare_bracket
spine-literal at width bits = search (rules, the_lemmas)

spine-variable : (name : Name) → spine (roll-Expr (Expr-F.Variable name)) ≡ alone (roll-Expr (layer (Expr-F.Variable name)))
unfolding spine bare_bracket
spine-variable name = search (rules, the_lemmas)

spine-apply : (f : Name) (xs : List Expr) → spine (roll-Expr (Expr-F.Apply f xs)) ≡ alone (roll-Expr (layer (Expr-F.Apply f xs)))
unfolding spine bare_bracket
spine-apply f xs =
    let got : spine (roll-Expr (Expr-F.Apply f xs)) ≡ alone (e.Apply (bare_name f) (map whole (map spine xs))) = search (rules, the_lemmas) in
    got ∙ (ap (λ ys. alone (e.Apply (bare_name f) ys)) (twice xs) ∙ ap alone (sym (e.rolls-Apply (bare_name f) (map bare_expr xs))))

spine-not : (at : ℕ) (x : Expr) → spine (roll-Expr (Expr-F.Not at x)) ≡ alone (roll-Expr (layer (Expr-F.Not at x)))
unfolding spine bare_bracket
spine-not at x = search (rules, the_lemmas)

spine-concat : (at : ℕ) (xs : List Expr) → spine (roll-Expr (Expr-F.Concat at xs)) ≡ alone (roll-Expr (layer (Expr-F.Concat at xs)))
unfolding spine bare_bracket
spine-concat at xs =
    let got : spine (roll-Expr (Expr-F.Concat at xs)) ≡ alone (e.Concat 0 (map whole (map spine xs))) = search (rules, the_lemmas) in
    got ∙ (ap (λ ys. alone (e.Concat 0 ys)) (twice xs) ∙ ap alone (sym (e.rolls-Concat 0 (map bare_expr xs))))

spine-equal : (at : ℕ) (x y : Expr) → spine (roll-Expr (Expr-F.Equal at x y)) ≡ alone (roll-Expr (layer (Expr-F.Equal at x y)))
unfolding spine bare_bracket
spine-equal at x y = search (rules, the_lemmas)

spine-not_equal : (at : ℕ) (x y : Expr) → spine (roll-Expr (Expr-F.NotEqual at x y)) ≡ alone (roll-Expr (layer (Expr-F.NotEqual at x y)))
unfolding spine bare_bracket
spine-not_equal at x y = search (rules, the_lemmas)

spine-and : (at : ℕ) (xs : List Expr) → spine (roll-Expr (Expr-F.And at xs)) ≡ alone (roll-Expr (layer (Expr-F.And at xs)))
unfolding spine bare_bracket
spine-and at xs =
    let got : spine (roll-Expr (Expr-F.And at xs)) ≡ alone (e.And 0 (map whole (map spine xs))) = search (rules, the_lemmas) in
    got ∙ (ap (λ ys. alone (e.And 0 ys)) (twice xs) ∙ ap alone (sym (e.rolls-And 0 (map bare_expr xs))))

spine-or : (at : ℕ) (xs : List Expr) → spine (roll-Expr (Expr-F.Or at xs)) ≡ alone (roll-Expr (layer (Expr-F.Or at xs)))
unfolding spine bare_bracket
spine-or at xs =
    let got : spine (roll-Expr (Expr-F.Or at xs)) ≡ alone (e.Or 0 (map whole (map spine xs))) = search (rules, the_lemmas) in
    got ∙ (ap (λ ys. alone (e.Or 0 ys)) (twice xs) ∙ ap alone (sym (e.rolls-Or 0 (map bare_expr xs))))

spine-implies : (at : ℕ) (x y : Expr) → spine (roll-Expr (Expr-F.Implies at x y)) ≡ alone (roll-Expr (layer (Expr-F.Implies at x y)))
unfolding spine bare_bracket
spine-implies at x y = search (rules, the_lemmas)

spine-implied_by : (at : ℕ) (xs : List Expr) → spine (roll-Expr (Expr-F.ImpliedBy at xs)) ≡ alone (roll-Expr (layer (Expr-F.ImpliedBy at xs)))
unfolding spine bare_bracket
spine-implied_by at xs =
    let got : spine (roll-Expr (Expr-F.ImpliedBy at xs)) ≡ alone (e.ImpliedBy 0 (map whole (map spine xs))) = search (rules, the_lemmas) in
    got ∙ (ap (λ ys. alone (e.ImpliedBy 0 ys)) (twice xs) ∙ ap alone (sym (e.rolls-ImpliedBy 0 (map bare_expr xs))))

spine-equivalent : (at : ℕ) (xs : List Expr) → spine (roll-Expr (Expr-F.Equivalent at xs)) ≡ alone (roll-Expr (layer (Expr-F.Equivalent at xs)))
unfolding spine bare_bracket
spine-equivalent at xs =
    let got : spine (roll-Expr (Expr-F.Equivalent at xs)) ≡ alone (e.Equivalent 0 (map whole (map spine xs))) = search (rules, the_lemmas) in
    got ∙ (ap (λ ys. alone (e.Equivalent 0 ys)) (twice xs) ∙ ap alone (sym (e.rolls-Equivalent 0 (map bare_expr xs))))

spine-choice : (at : ℕ) (x y z : Expr) → spine (roll-Expr (Expr-F.Choice at x y z)) ≡ alone (roll-Expr (layer (Expr-F.Choice at x y z)))
unfolding spine bare_bracket
spine-choice at x y z = search (rules, the_lemmas)

plain-roll : (y : Expr-F Bracket Expr) → IsPlain y → spine (roll-Expr y) ≡ alone (roll-Expr (layer y))
plain-roll (Expr-F.True at) is = spine-true at
plain-roll (Expr-F.False at) is = spine-false at
plain-roll (Expr-F.Literal at width bits) is = spine-literal at width bits
plain-roll (Expr-F.Variable name) is = spine-variable name
plain-roll (Expr-F.Apply f xs) is = spine-apply f xs
plain-roll (Expr-F.Post at x bs) is = absurd is
plain-roll (Expr-F.Not at x) is = spine-not at x
plain-roll (Expr-F.Concat at xs) is = spine-concat at xs
plain-roll (Expr-F.Equal at x y) is = spine-equal at x y
plain-roll (Expr-F.NotEqual at x y) is = spine-not_equal at x y
plain-roll (Expr-F.And at xs) is = spine-and at xs
plain-roll (Expr-F.Or at xs) is = spine-or at xs
plain-roll (Expr-F.Implies at x y) is = spine-implies at x y
plain-roll (Expr-F.ImpliedBy at xs) is = spine-implied_by at xs
plain-roll (Expr-F.Equivalent at xs) is = spine-equivalent at xs
plain-roll (Expr-F.Choice at x y z) is = spine-choice at x y z

opened : (x : Expr) → roll-Expr (out-Expr x) ≡ x
opened x = search (rules, the_lemmas)

shut : (y : Expr-F Bracket Expr) → out-Expr (roll-Expr y) ≡ y
shut y = search (rules, the_lemmas)

spine_in : Spine → Expr-F Bracket Expr → Spine
spine_in s (Expr-F.Post at x bs) = record { operand = x; brackets = bs }
spine_in s _ = s

-- the operand and the brackets are told by the whole
pub whole_same : (s t : Spine) → whole s ≡ whole t → s ≡ t
unfolding spine_in
whole_same s t same =
    let e : roll-Expr (Expr-F.Post 0 s.operand s.brackets) ≡ roll-Expr (Expr-F.Post 0 t.operand t.brackets) = rolls-Post 0 s.operand s.brackets ∙ (same ∙ sym (rolls-Post 0 t.operand t.brackets)) in
    let f : Expr-F.Post 0 s.operand s.brackets ≡ Expr-F.Post 0 t.operand t.brackets = sym (shut (Expr-F.Post 0 s.operand s.brackets)) ∙ (ap out-Expr e ∙ shut (Expr-F.Post 0 t.operand t.brackets)) in
    ap (spine_in s) f

forth : (x y : Expr-F Bracket Expr) → IsPlain x → IsPlain y → bare_expr (roll-Expr x) ≡ bare_expr (roll-Expr y) → layer x ≡ layer y
forth x y p q same =
    let s : spine (roll-Expr x) ≡ spine (roll-Expr y) = whole_same (spine (roll-Expr x)) (spine (roll-Expr y)) same in
    let e : roll-Expr (layer x) ≡ roll-Expr (layer y) = ap (λ (v : Spine). v.operand) (sym (plain-roll x p) ∙ (s ∙ plain-roll y q)) in
    sym (shut (layer x)) ∙ (ap out-Expr e ∙ shut (layer y))

back : (x y : Expr-F Bracket Expr) → IsPlain x → IsPlain y → layer x ≡ layer y → bare_expr (roll-Expr x) ≡ bare_expr (roll-Expr y)
back x y p q same = ap whole (plain-roll x p ∙ (ap (λ v. alone (roll-Expr v)) same ∙ sym (plain-roll y q)))

-- two nodes that are known
pub both : {r : Bool} {a b : Expr} (x y : Expr-F Bracket Expr) → IsPlain x → IsPlain y → a ≡ roll-Expr x → b ≡ roll-Expr y → (r ≡ true ↔ layer x ≡ layer y) → (r ≡ true ↔ bare_expr a ≡ bare_expr b)
both x y m n p q same = (λ h. ap bare_expr p ∙ (back x y m n (same.0 h) ∙ sym (ap bare_expr q)), λ e. same.1 (forth x y m n (sym (ap bare_expr p) ∙ (e ∙ ap bare_expr q))))

-- a value that is opened to this node
pub turned : (b : Expr) (z : Expr-F Bracket Expr) → out-Expr b ≡ z → b ≡ roll-Expr z
turned b z is = sym (opened b) ∙ ap roll-Expr is

plain_node : (b : Expr) (z : Expr-F Bracket Expr) → out-Expr b ≡ z → NoPost b → IsPlain z
plain_node b (Expr-F.Post at x bs) is isnt = isnt at x bs (turned b (Expr-F.Post at x bs) is ∙ rolls-Post at x bs)
plain_node b (Expr-F.True at) is isnt = tt {0}
plain_node b (Expr-F.False at) is isnt = tt {0}
plain_node b (Expr-F.Literal at width bits) is isnt = tt {0}
plain_node b (Expr-F.Variable name) is isnt = tt {0}
plain_node b (Expr-F.Apply f xs) is isnt = tt {0}
plain_node b (Expr-F.Not at x) is isnt = tt {0}
plain_node b (Expr-F.Concat at xs) is isnt = tt {0}
plain_node b (Expr-F.Equal at x y) is isnt = tt {0}
plain_node b (Expr-F.NotEqual at x y) is isnt = tt {0}
plain_node b (Expr-F.And at xs) is isnt = tt {0}
plain_node b (Expr-F.Or at xs) is isnt = tt {0}
plain_node b (Expr-F.Implies at x y) is isnt = tt {0}
plain_node b (Expr-F.ImpliedBy at xs) is isnt = tt {0}
plain_node b (Expr-F.Equivalent at xs) is isnt = tt {0}
plain_node b (Expr-F.Choice at x y z) is isnt = tt {0}

plain : (b : Expr) → NoPost b → IsPlain (out-Expr b)
plain b isnt = plain_node b (out-Expr b) refl isnt

-- two nodes of two kinds
pub apart : {a : Expr} (b : Expr) (x : Expr-F Bracket Expr) → IsPlain x → a ≡ roll-Expr x → NoPost b → (layer x ≡ layer (out-Expr b) → ⊥) → (false ≡ true ↔ bare_expr a ≡ bare_expr b)
apart b x m p isnt never = both {r = false} x (out-Expr b) m (plain b isnt) p (sym (opened b)) (λ h. absurd cc, λ e. absurd (never e))

-- an operand alone has no brackets
pub no_brackets : (b : Expr) → NoPost b → (spine b).brackets ≡ []
no_brackets b isnt = ap (λ (v : Spine). v.brackets) (ap spine (sym (opened b)) ∙ plain-roll (out-Expr b) (plain b isnt))

pub not-true : (at : ℕ) (other : Expr-F Bracket Expr) → ((at' : ℕ) → other ≡ Expr-F.True at' → ⊥) → layer (Expr-F.True at) ≡ layer other → ⊥
not-true at (Expr-F.True at') isnt same = isnt at' refl
not-true at _ isnt same = absurd cc

pub not-false : (at : ℕ) (other : Expr-F Bracket Expr) → ((at' : ℕ) → other ≡ Expr-F.False at' → ⊥) → layer (Expr-F.False at) ≡ layer other → ⊥
not-false at (Expr-F.False at') isnt same = isnt at' refl
not-false at _ isnt same = absurd cc

pub not-literal : (at width bits : ℕ) (other : Expr-F Bracket Expr) → ((at' width' bits' : ℕ) → other ≡ Expr-F.Literal at' width' bits' → ⊥) → layer (Expr-F.Literal at width bits) ≡ layer other → ⊥
not-literal at width bits (Expr-F.Literal at' width' bits') isnt same = isnt at' width' bits' refl
not-literal at width bits _ isnt same = absurd cc

pub not-variable : (name : Name) (other : Expr-F Bracket Expr) → ((name' : Name) → other ≡ Expr-F.Variable name' → ⊥) → layer (Expr-F.Variable name) ≡ layer other → ⊥
not-variable name (Expr-F.Variable name') isnt same = isnt name' refl
not-variable name _ isnt same = absurd cc

pub not-apply : (f : Name) (xs : List Expr) (other : Expr-F Bracket Expr) → ((f' : Name) (xs' : List Expr) → other ≡ Expr-F.Apply f' xs' → ⊥) → layer (Expr-F.Apply f xs) ≡ layer other → ⊥
not-apply f xs (Expr-F.Apply f' xs') isnt same = isnt f' xs' refl
not-apply f xs _ isnt same = absurd cc

pub not-not : (at : ℕ) (x : Expr) (other : Expr-F Bracket Expr) → ((at' : ℕ) (x' : Expr) → other ≡ Expr-F.Not at' x' → ⊥) → layer (Expr-F.Not at x) ≡ layer other → ⊥
not-not at x (Expr-F.Not at' x') isnt same = isnt at' x' refl
not-not at x _ isnt same = absurd cc

pub not-concat : (at : ℕ) (xs : List Expr) (other : Expr-F Bracket Expr) → ((at' : ℕ) (xs' : List Expr) → other ≡ Expr-F.Concat at' xs' → ⊥) → layer (Expr-F.Concat at xs) ≡ layer other → ⊥
not-concat at xs (Expr-F.Concat at' xs') isnt same = isnt at' xs' refl
not-concat at xs _ isnt same = absurd cc

pub not-equal : (at : ℕ) (x y : Expr) (other : Expr-F Bracket Expr) → ((at' : ℕ) (x' y' : Expr) → other ≡ Expr-F.Equal at' x' y' → ⊥) → layer (Expr-F.Equal at x y) ≡ layer other → ⊥
not-equal at x y (Expr-F.Equal at' x' y') isnt same = isnt at' x' y' refl
not-equal at x y _ isnt same = absurd cc

pub not-not_equal : (at : ℕ) (x y : Expr) (other : Expr-F Bracket Expr) → ((at' : ℕ) (x' y' : Expr) → other ≡ Expr-F.NotEqual at' x' y' → ⊥) → layer (Expr-F.NotEqual at x y) ≡ layer other → ⊥
not-not_equal at x y (Expr-F.NotEqual at' x' y') isnt same = isnt at' x' y' refl
not-not_equal at x y _ isnt same = absurd cc

pub not-and : (at : ℕ) (xs : List Expr) (other : Expr-F Bracket Expr) → ((at' : ℕ) (xs' : List Expr) → other ≡ Expr-F.And at' xs' → ⊥) → layer (Expr-F.And at xs) ≡ layer other → ⊥
not-and at xs (Expr-F.And at' xs') isnt same = isnt at' xs' refl
not-and at xs _ isnt same = absurd cc

pub not-or : (at : ℕ) (xs : List Expr) (other : Expr-F Bracket Expr) → ((at' : ℕ) (xs' : List Expr) → other ≡ Expr-F.Or at' xs' → ⊥) → layer (Expr-F.Or at xs) ≡ layer other → ⊥
not-or at xs (Expr-F.Or at' xs') isnt same = isnt at' xs' refl
not-or at xs _ isnt same = absurd cc

pub not-implies : (at : ℕ) (x y : Expr) (other : Expr-F Bracket Expr) → ((at' : ℕ) (x' y' : Expr) → other ≡ Expr-F.Implies at' x' y' → ⊥) → layer (Expr-F.Implies at x y) ≡ layer other → ⊥
not-implies at x y (Expr-F.Implies at' x' y') isnt same = isnt at' x' y' refl
not-implies at x y _ isnt same = absurd cc

pub not-implied_by : (at : ℕ) (xs : List Expr) (other : Expr-F Bracket Expr) → ((at' : ℕ) (xs' : List Expr) → other ≡ Expr-F.ImpliedBy at' xs' → ⊥) → layer (Expr-F.ImpliedBy at xs) ≡ layer other → ⊥
not-implied_by at xs (Expr-F.ImpliedBy at' xs') isnt same = isnt at' xs' refl
not-implied_by at xs _ isnt same = absurd cc

pub not-equivalent : (at : ℕ) (xs : List Expr) (other : Expr-F Bracket Expr) → ((at' : ℕ) (xs' : List Expr) → other ≡ Expr-F.Equivalent at' xs' → ⊥) → layer (Expr-F.Equivalent at xs) ≡ layer other → ⊥
not-equivalent at xs (Expr-F.Equivalent at' xs') isnt same = isnt at' xs' refl
not-equivalent at xs _ isnt same = absurd cc

pub not-choice : (at : ℕ) (x y z : Expr) (other : Expr-F Bracket Expr) → ((at' : ℕ) (x' y' z' : Expr) → other ≡ Expr-F.Choice at' x' y' z' → ⊥) → layer (Expr-F.Choice at x y z) ≡ layer other → ⊥
not-choice at x y z (Expr-F.Choice at' x' y' z') isnt same = isnt at' x' y' z' refl
not-choice at x y z _ isnt same = absurd cc
