-- By induction on the tree: the number of nodes of an expression's term is alike to what the expression counts.
use Rattle.std.proofs.Common.{◌≡◌, ℕ, zero, suc, ◌+◌, inl, List, [], ◌∷◌, ◌++◌, map, fold, unwrap_or, Option, Some, None, refl, sym, ap, subst, arith, add-zero}
use Rattle.std.specs.List.{AllByRecursion, slice_get}
use Rattle.bpl_ast.specs.declared.expr.Bracket.{Bracket, roll-Bracket}
use Rattle.bpl_ast.specs.declared.expr.Bracket.TheFolds.{ind-Expr, map-Expr, map-Bracket, fold-roll-Expr, fold-roll-Bracket}
use Rattle.bpl_ast.specs.declared.expr.Bracket.TheOpen.{Bracket-F, Expr-F}
use Rattle.bpl_ast.specs.declared.expr.Expr.{Expr, roll-Expr}
use Rattle.hy_val.specs.declared.expr.Var.{Var}
use Rattle.hy_val.specs.declared.operator.BvOp.TheVariants.{And, Or, Iff, Concat}
use Rattle.hy_val.specs.declared.sort.Sort.{Sort}
use Rattle.type_pass.specs.declared.tables.Builtin.{Builtin}
use Rattle.type_pass.specs.declared.tables.Builtin.TheVariants.{Unary, Binary}
use Rattle.type_pass.specs.declared.tables.Meaning.{Meaning}
use Rattle.type_pass.specs.declared.tables.Meaning.TheVariants.{Body, Operator, Nothing}
use Rattle.type_pass.specs.declared.tables.Scope.{Scope}
use Rattle.type_pass.specs.declared.tables.Signature.{Signature}
use Rattle.type_pass.specs.declared.tables.Tables.{Tables}
use Rattle.bpl_type.specs.Counts.{weigh, weigh_if, weigh_argument, Alike, affine_at}
use Rattle.type_pass.specs.Passes.{all_uses, uses, bracket_uses, expr_uses}
use Rattle.type_pass.specs.Replaced.{Use, term_by, bracket_term, bracket_node, term_node, read_if, operated, meant, used}
use Rattle.type_pass.specs.Scopes.{find_name, function_named}
use Rattle.type_pass.specs.Terms.{Term, binary, implied, missing, chain, substituted}
use Rattle.type_pass.specs.Uses.{in_bracket}
use Rattle.bpl_type.specs.Weights.{Weight, Affine, Templates, argument_weight, operand_weight, operated_weight, meant_weight, used_weight, read_weight, all_weights, rest_weight, chain_weight, bracket_weight, expr_weight, weight_by, bracket_weight_by}
use Rattle.bpl_type.proofs.CountLaws.{weigh-substituted, alike-trans, alike-between, alike-sum, alike-one_more, alike-two, alike-three, affine-alike, AllAlike}
use Rattle.bpl_type.proofs.Elements.{all_split}
use Rattle.bpl_type.proofs.TermAgreement.{Names, term-roll, bracket-roll, uses-roll, bracket-uses-roll}

pub weight-roll : (m : Templates) (t : Tables) (s : Scope) (d : Expr-F Bracket Expr) → weight_by m t s (roll-Expr d) ≡ expr_weight m t s (map-Expr Bracket Expr Weight Weight (bracket_weight_by m t s) (weight_by m t s) d)
unfolding weight_by bracket_weight_by
weight-roll m t s d = fold-roll-Expr Weight Weight bracket_weight (expr_weight m t s) d

pub bracket-weight-roll : (m : Templates) (t : Tables) (s : Scope) (d : Bracket-F Bracket Expr) → bracket_weight_by m t s (roll-Bracket d) ≡ bracket_weight (map-Bracket Bracket Expr Weight Weight (bracket_weight_by m t s) (weight_by m t s) d)
unfolding weight_by bracket_weight_by
bracket-weight-roll m t s d = fold-roll-Bracket Weight Weight bracket_weight (expr_weight m t s) d

-- ---- what a use of a function counts, where its arguments count alike

get-alike : (most : ℕ) (ms ns : List ℕ) (n d : ℕ) → AllAlike most ms ns → Alike most (unwrap_or (slice_get ms n) d) (unwrap_or (slice_get ns n) d)
get-alike most [] [] n d h = inl refl
get-alike most [] (y ∷ ys) n d h = absurd h
get-alike most (x ∷ xs) [] n d h = absurd h
get-alike most (x ∷ xs) (y ∷ ys) zero d h = h.0
get-alike most (x ∷ xs) (y ∷ ys) (suc n) d h = get-alike most xs ys n d h.1

operated-alike : (most : ℕ) (b : Builtin) (ms ns : List ℕ) → AllAlike most ms ns → Alike most (operated_weight b ms) (operated_weight b ns)
operated-alike most (Unary op) ms ns h = alike-one_more most (operand_weight ms 0) (operand_weight ns 0) (get-alike most ms ns 0 1 h)
operated-alike most (Binary op) ms ns h = alike-two most (operand_weight ms 0) (operand_weight ns 0) (operand_weight ms 1) (operand_weight ns 1) (get-alike most ms ns 0 1 h) (get-alike most ms ns 1 1 h)

meant-alike : (most : ℕ) (meaning : Meaning) (a : Affine) (v : ℕ → ℕ) (ms ns : List ℕ) → AllAlike most ms ns → Alike most (meant_weight meaning a v ms) (meant_weight meaning a v ns)
meant-alike most Body a v ms ns h = affine-alike most a.0 a.1 (argument_weight v ms) (argument_weight v ns) (λ n. get-alike most ms ns n (v n) h)
meant-alike most (Operator b) a v ms ns h = operated-alike most b ms ns h
meant-alike most Nothing a v ms ns h = inl refl

pub used-alike : (most : ℕ) (f : Option Signature) (a : Affine) (v : ℕ → ℕ) (ms ns : List ℕ) → AllAlike most ms ns → Alike most (used_weight f a v ms) (used_weight f a v ns)
used-alike most None a v ms ns h = inl refl
used-alike most (Some f) a v ms ns h = meant-alike most f.meaning a v ms ns h

-- ---- sums in another order

select-sum : (most a i j : ℕ) → Alike most i j → Alike most (a + i + 1) (a + (j + 1))
select-sum most a i j h =
    let apart : a + i + 1 ≡ a + (i + 1) = omega arith in
    alike-trans most (a + i + 1) (a + (i + 1)) (a + (j + 1)) (inl apart) (alike-sum most a a (i + 1) (j + 1) (inl refl) (alike-one_more most i j h))

store-sum : (most a i j x y : ℕ) → Alike most i j → Alike most x y → Alike most (a + i + x + 1) (a + (j + y + 1))
store-sum most a i j x y h k =
    let apart : a + i + x + 1 ≡ a + (i + x + 1) = omega arith in
    alike-trans most (a + i + x + 1) (a + (i + x + 1)) (a + (j + y + 1)) (inl apart) (alike-sum most a a (i + x + 1) (j + y + 1) (inl refl) (alike-two most i j x y h k))

joined-sum : (most j a b b' rest : ℕ) → j ≡ a + b + 1 → Alike most b b' → Alike most (j + rest) (a + (b' + 1 + rest))
joined-sum most j a b b' rest joins h =
    let apart : j + rest ≡ a + (b + 1 + rest) = omega (arith, joins) in
    alike-trans most (j + rest) (a + (b + 1 + rest)) (a + (b' + 1 + rest)) (inl apart)
    (alike-sum most a a (b + 1 + rest) (b' + 1 + rest) (inl refl) (alike-sum most (b + 1) (b' + 1) rest rest (alike-one_more most b b' h) (inl refl)))

bracket-sum : (most j a b rest : ℕ) → Alike most j (a + b) → Alike most (j + rest) (a + (b + rest))
bracket-sum most j a b rest h =
    let apart : a + b + rest ≡ a + (b + rest) = omega arith in
    alike-trans most (j + rest) (a + b + rest) (a + (b + rest)) (alike-sum most j (a + b) rest rest h (inl refl)) (inl apart)

read-weighed : (v : ℕ → ℕ) (seen : Option (Var × Sort)) → weigh v (read_if seen) ≡ read_weight v seen
read-weighed v None = refl
read-weighed v (Some seen) = refl

-- each use of the function of a name counts as its template says
abbrev pub Weighed : ℕ → Use → Templates → Tables → List ℕ → Type 0
Weighed most u m t text = (v : ℕ → ℕ) (arguments : List Term) → Alike most (weigh v (u text arguments)) (used_weight (function_named t text) (m text) v (map (weigh v) arguments))

module _ (most : ℕ) (u : Use) (m : Templates) (t : Tables) (s : Scope) where
  abbrev All : Names → Type 0
  All names = AllByRecursion (Weighed most u m t) names

  abbrev IsWeighed : Expr → Type 0
  IsWeighed x = All (uses x) → (v : ℕ → ℕ) → Alike most (weigh v (term_by u t s x)) (weight_by m t s x v)

  abbrev BracketIsWeighed : Bracket → Type 0
  BracketIsWeighed b = All (in_bracket b) → (v : ℕ → ℕ) (a : Term) → Alike most (weigh v (bracket_term u t s b a)) (weigh v a + bracket_weight_by m t s b v)

  terms-weighed : {E : Type 0} (e : E → Expr) (ke : (c : E) → IsWeighed (e c)) (xs : List E) → All (all_uses (map uses (map e xs))) → (v : ℕ → ℕ)
      → AllAlike most (map (weigh v) (map (term_by u t s) (map e xs))) (map (λ (w : Weight). w v) (map (weight_by m t s) (map e xs)))
  terms-weighed e ke [] h v = tt
  terms-weighed e ke (x ∷ xs) h v = let r = all_split (Weighed most u m t) (uses (e x)) (all_uses (map uses (map e xs))) h in (ke x r.0 v, terms-weighed e ke xs r.1 v)

  rest-weighed : (v : ℕ → ℕ) (join : Term → Term → Term) (joins : (a b : Term) → weigh v (join a b) ≡ weigh v a + weigh v b + 1)
      {E : Type 0} (e : E → Expr) (ke : (c : E) → IsWeighed (e c)) (xs : List E) (a : Term) → All (all_uses (map uses (map e xs)))
      → Alike most (weigh v (fold join a (map (term_by u t s) (map e xs)))) (weigh v a + rest_weight (map (weight_by m t s) (map e xs)) v)
  rest-weighed v join joins e ke [] a h = inl (sym (add-zero (weigh v a)))
  rest-weighed v join joins e ke (x ∷ xs) a h =
      let r = all_split (Weighed most u m t) (uses (e x)) (all_uses (map uses (map e xs))) h in
      let b = term_by u t s (e x) in
      let rest = rest_weight (map (weight_by m t s) (map e xs)) v in
      alike-trans most (weigh v (fold join (join a b) (map (term_by u t s) (map e xs)))) (weigh v (join a b) + rest) (weigh v a + (weight_by m t s (e x) v + 1 + rest))
      (rest-weighed v join joins e ke xs (join a b) r.1)
      (joined-sum most (weigh v (join a b)) (weigh v a) (weigh v b) (weight_by m t s (e x) v) rest (joins a b) (ke x r.0 v))

  chain-weighed : (v : ℕ → ℕ) (join : Term → Term → Term) (joins : (a b : Term) → weigh v (join a b) ≡ weigh v a + weigh v b + 1)
      {E : Type 0} (e : E → Expr) (ke : (c : E) → IsWeighed (e c)) (xs : List E) → All (all_uses (map uses (map e xs)))
      → Alike most (weigh v (chain join (map (term_by u t s) (map e xs)))) (chain_weight (map (weight_by m t s) (map e xs)) v)
  chain-weighed v join joins e ke [] h = inl refl
  chain-weighed v join joins e ke (x ∷ xs) h =
      let r = all_split (Weighed most u m t) (uses (e x)) (all_uses (map uses (map e xs))) h in
      let a = term_by u t s (e x) in
      let rest = rest_weight (map (weight_by m t s) (map e xs)) v in
      alike-trans most (weigh v (fold join a (map (term_by u t s) (map e xs)))) (weigh v a + rest) (weight_by m t s (e x) v + rest)
      (rest-weighed v join joins e ke xs a r.1) (alike-sum most (weigh v a) (weight_by m t s (e x) v) rest rest (ke x r.0 v) (inl refl))

  brackets-weighed : {B : Type 0} (b : B → Bracket) (kb : (c : B) → BracketIsWeighed (b c)) (bs : List B) (v : ℕ → ℕ) (a : Term) → All (all_uses (map in_bracket (map b bs)))
      → Alike most (weigh v (fold (λ c k. k c) a (map (bracket_term u t s) (map b bs)))) (weigh v a + all_weights (map (bracket_weight_by m t s) (map b bs)) v)
  brackets-weighed b kb [] v a h = inl (sym (add-zero (weigh v a)))
  brackets-weighed b kb (x ∷ xs) v a h =
      let r = all_split (Weighed most u m t) (in_bracket (b x)) (all_uses (map in_bracket (map b xs))) h in
      let c = bracket_term u t s (b x) a in
      let rest = all_weights (map (bracket_weight_by m t s) (map b xs)) v in
      alike-trans most (weigh v (fold (λ c k. k c) c (map (bracket_term u t s) (map b xs)))) (weigh v c + rest) (weigh v a + (bracket_weight_by m t s (b x) v + rest))
      (brackets-weighed b kb xs v c r.1) (bracket-sum most (weigh v c) (weigh v a) (bracket_weight_by m t s (b x) v) rest (kb x r.0 v a))

  two-weighed : (x y : Expr) → IsWeighed x → IsWeighed y → All (uses x ++ uses y) → (v : ℕ → ℕ)
      → Alike most (weigh v (term_by u t s x) + weigh v (term_by u t s y) + 1) (weight_by m t s x v + weight_by m t s y v + 1)
  two-weighed x y kx ky h v =
      let r = all_split (Weighed most u m t) (uses x) (uses y) h in
      alike-two most (weigh v (term_by u t s x)) (weight_by m t s x v) (weigh v (term_by u t s y)) (weight_by m t s y v) (kx r.0 v) (ky r.1 v)

  -- one bracket, whose expressions are weighed
  bracket_weighed : {B E : Type 0} (b : B → Bracket) (e : E → Expr) (ke : (c : E) → IsWeighed (e c)) (y : Bracket-F B E)
      → All (bracket_uses (map-Bracket Bracket Expr Names Names in_bracket uses (map-Bracket B E Bracket Expr b e y))) → (v : ℕ → ℕ) (a : Term)
      → Alike most (weigh v (bracket_node (map-Bracket Bracket Expr (Term → Term) Term (bracket_term u t s) (term_by u t s) (map-Bracket B E Bracket Expr b e y)) a))
      (weigh v a + bracket_weight (map-Bracket Bracket Expr Weight Weight (bracket_weight_by m t s) (weight_by m t s) (map-Bracket B E Bracket Expr b e y)) v)
  bracket_weighed b e ke (Bracket-F.Select x) h v a = select-sum most (weigh v a) (weigh v (term_by u t s (e x))) (weight_by m t s (e x) v) (ke x h v)
  bracket_weighed b e ke (Bracket-F.Store x y) h v a =
      let r = all_split (Weighed most u m t) (uses (e x)) (uses (e y)) h in
      store-sum most (weigh v a) (weigh v (term_by u t s (e x))) (weight_by m t s (e x) v) (weigh v (term_by u t s (e y))) (weight_by m t s (e y) v) (ke x r.0 v) (ke y r.1 v)
  bracket_weighed b e ke (Bracket-F.Extract high low) h v a = inl refl

  bracket_rolled : (d : Bracket-F Bracket Expr) (v : ℕ → ℕ) (a : Term)
      → Alike most (weigh v (bracket_node (map-Bracket Bracket Expr (Term → Term) Term (bracket_term u t s) (term_by u t s) d) a))
      (weigh v a + bracket_weight (map-Bracket Bracket Expr Weight Weight (bracket_weight_by m t s) (weight_by m t s) d) v)
      → Alike most (weigh v (bracket_term u t s (roll-Bracket d) a)) (weigh v a + bracket_weight_by m t s (roll-Bracket d) v)
  bracket_rolled d v a h =
      alike-between most (weigh v (bracket_term u t s (roll-Bracket d) a))
      (weigh v (bracket_node (map-Bracket Bracket Expr (Term → Term) Term (bracket_term u t s) (term_by u t s) d) a))
      (weigh v a + bracket_weight_by m t s (roll-Bracket d) v)
      (weigh v a + bracket_weight (map-Bracket Bracket Expr Weight Weight (bracket_weight_by m t s) (weight_by m t s) d) v)
      (ap (λ k. weigh v (k a)) (bracket-roll u t s d)) h (ap (λ k. weigh v a + k v) (sym (bracket-weight-roll m t s d)))

  bracket_step : {B E : Type 0} (b : B → Bracket) (e : E → Expr) (ke : (c : E) → IsWeighed (e c)) (y : Bracket-F B E) → BracketIsWeighed (roll-Bracket (map-Bracket B E Bracket Expr b e y))
  bracket_step b e ke y h v a = bracket_rolled (map-Bracket _ _ Bracket Expr b e y) v a (bracket_weighed b e ke y (subst All (bracket-uses-roll (map-Bracket _ _ Bracket Expr b e y)) h) v a)

  -- one node, whose operands are weighed
  node-weighed : {B E : Type 0} (b : B → Bracket) (kb : (c : B) → BracketIsWeighed (b c)) (e : E → Expr) (ke : (c : E) → IsWeighed (e c)) (y : Expr-F B E)
      → All (expr_uses (map-Expr Bracket Expr Names Names in_bracket uses (map-Expr B E Bracket Expr b e y))) → (v : ℕ → ℕ)
      → Alike most (weigh v (term_node u t s (map-Expr Bracket Expr (Term → Term) Term (bracket_term u t s) (term_by u t s) (map-Expr B E Bracket Expr b e y))))
      (expr_weight m t s (map-Expr Bracket Expr Weight Weight (bracket_weight_by m t s) (weight_by m t s) (map-Expr B E Bracket Expr b e y)) v)
  node-weighed b kb e ke (Expr-F.True at) h v = inl refl
  node-weighed b kb e ke (Expr-F.False at) h v = inl refl
  node-weighed b kb e ke (Expr-F.Literal at width bits) h v = inl refl
  node-weighed b kb e ke (Expr-F.Variable n) h v = inl (read-weighed v (find_name t s n.text))
  node-weighed b kb e ke (Expr-F.Apply f xs) h v =
      let r = all_split (Weighed most u m t) (all_uses (map uses (map e xs))) (f.text ∷ []) h in
      let ts = map (term_by u t s) (map e xs) in
      alike-trans most (weigh v (u f.text ts)) (used_weight (function_named t f.text) (m f.text) v (map (weigh v) ts))
      (used_weight (function_named t f.text) (m f.text) v (map (λ (w : Weight). w v) (map (weight_by m t s) (map e xs))))
      (r.1.0 v ts)
      (used-alike most (function_named t f.text) (m f.text) v (map (weigh v) ts) (map (λ (w : Weight). w v) (map (weight_by m t s) (map e xs))) (terms-weighed e ke xs r.0 v))
  node-weighed b kb e ke (Expr-F.Post at x bs) h v =
      let r = all_split (Weighed most u m t) (uses (e x)) (all_uses (map in_bracket (map b bs))) h in
      let a = term_by u t s (e x) in
      let rest = all_weights (map (bracket_weight_by m t s) (map b bs)) v in
      alike-trans most (weigh v (fold (λ c k. k c) a (map (bracket_term u t s) (map b bs)))) (weigh v a + rest) (weight_by m t s (e x) v + rest)
      (brackets-weighed b kb bs v a r.1) (alike-sum most (weigh v a) (weight_by m t s (e x) v) rest rest (ke x r.0 v) (inl refl))
  node-weighed b kb e ke (Expr-F.Not at x) h v = alike-one_more most (weigh v (term_by u t s (e x))) (weight_by m t s (e x) v) (ke x h v)
  node-weighed b kb e ke (Expr-F.Concat at xs) h v = chain-weighed v (binary Concat) (λ x y. refl) e ke xs h
  node-weighed b kb e ke (Expr-F.Equal at x y) h v = two-weighed (e x) (e y) (ke x) (ke y) h v
  node-weighed b kb e ke (Expr-F.NotEqual at x y) h v = two-weighed (e x) (e y) (ke x) (ke y) h v
  node-weighed b kb e ke (Expr-F.And at xs) h v = chain-weighed v (binary And) (λ x y. refl) e ke xs h
  node-weighed b kb e ke (Expr-F.Or at xs) h v = chain-weighed v (binary Or) (λ x y. refl) e ke xs h
  node-weighed b kb e ke (Expr-F.Implies at x y) h v = two-weighed (e x) (e y) (ke x) (ke y) h v
  node-weighed b kb e ke (Expr-F.ImpliedBy at xs) h v = chain-weighed v implied (λ x y. refl) e ke xs h
  node-weighed b kb e ke (Expr-F.Equivalent at xs) h v = chain-weighed v (binary Iff) (λ x y. refl) e ke xs h
  node-weighed b kb e ke (Expr-F.Choice at x y z) h v =
      let r = all_split (Weighed most u m t) (uses (e x) ++ uses (e y)) (uses (e z)) h in
      let q = all_split (Weighed most u m t) (uses (e x)) (uses (e y)) r.0 in
      alike-three most (weigh v (term_by u t s (e x))) (weight_by m t s (e x) v) (weigh v (term_by u t s (e y))) (weight_by m t s (e y) v) (weigh v (term_by u t s (e z))) (weight_by m t s (e z) v)
      (ke x q.0 v) (ke y q.1 v) (ke z r.1 v)

  expr_rolled : (d : Expr-F Bracket Expr) (v : ℕ → ℕ)
      → Alike most (weigh v (term_node u t s (map-Expr Bracket Expr (Term → Term) Term (bracket_term u t s) (term_by u t s) d)))
      (expr_weight m t s (map-Expr Bracket Expr Weight Weight (bracket_weight_by m t s) (weight_by m t s) d) v)
      → Alike most (weigh v (term_by u t s (roll-Expr d))) (weight_by m t s (roll-Expr d) v)
  expr_rolled d v h =
      alike-between most (weigh v (term_by u t s (roll-Expr d)))
      (weigh v (term_node u t s (map-Expr Bracket Expr (Term → Term) Term (bracket_term u t s) (term_by u t s) d)))
      (weight_by m t s (roll-Expr d) v)
      (expr_weight m t s (map-Expr Bracket Expr Weight Weight (bracket_weight_by m t s) (weight_by m t s) d) v)
      (ap (weigh v) (term-roll u t s d)) h (ap (λ k. k v) (sym (weight-roll m t s d)))

  expr_step : {B E : Type 0} (b : B → Bracket) (kb : (c : B) → BracketIsWeighed (b c)) (e : E → Expr) (ke : (c : E) → IsWeighed (e c)) (y : Expr-F B E) → IsWeighed (roll-Expr (map-Expr B E Bracket Expr b e y))
  expr_step b kb e ke y h v = expr_rolled (map-Expr _ _ Bracket Expr b e y) v (node-weighed b kb e ke y (subst All (uses-roll (map-Expr _ _ Bracket Expr b e y)) h) v)

  pub weighed-term : (x : Expr) → IsWeighed x
  weighed-term = ind-Expr BracketIsWeighed IsWeighed
      (λ x y same. subst (λ (w : Bracket-F Bracket Expr). BracketIsWeighed (roll-Bracket w)) same (bracket_step (λ c. c.0) (λ c. c.0) (λ c. c.1) y))
      (λ x y same. subst (λ (w : Expr-F Bracket Expr). IsWeighed (roll-Expr w)) same (expr_step (λ c. c.0) (λ c. c.1) (λ c. c.0) (λ c. c.1) y))

-- ---- functions

argument-weighed : (v : ℕ → ℕ) (i : ℕ) (arguments : List Term) (n : ℕ) → weigh_if v i (slice_get arguments n) ≡ unwrap_or (slice_get (map (weigh v) arguments) n) (v i)
argument-weighed v i [] n = refl
argument-weighed v i (a ∷ as') zero = refl
argument-weighed v i (a ∷ as') (suc n) = argument-weighed v i as' n

operand-weighed : (v : ℕ → ℕ) (arguments : List Term) (n : ℕ) → weigh v (unwrap_or (slice_get arguments n) missing) ≡ unwrap_or (slice_get (map (weigh v) arguments) n) 1
operand-weighed v [] n = refl
operand-weighed v (a ∷ as') zero = refl
operand-weighed v (a ∷ as') (suc n) = operand-weighed v as' n

-- a body, whose number of nodes is an affine function, with arguments
pub body-weighed : (most base : ℕ) (slopes : List ℕ) (body : Term) → ((v : ℕ → ℕ) → Alike most (weigh v body) (affine_at base slopes v)) → (v : ℕ → ℕ) (arguments : List Term)
    → Alike most (weigh v (substituted arguments body)) (affine_at base slopes (argument_weight v (map (weigh v) arguments)))
body-weighed most base slopes body h v xs =
    alike-trans most (weigh v (substituted xs body)) (weigh (weigh_argument v xs) body) (affine_at base slopes (argument_weight v (map (weigh v) xs)))
    (inl (weigh-substituted v xs body))
    (alike-trans most (weigh (weigh_argument v xs) body) (affine_at base slopes (weigh_argument v xs)) (affine_at base slopes (argument_weight v (map (weigh v) xs)))
    (h (weigh_argument v xs))
    (affine-alike most base slopes (weigh_argument v xs) (argument_weight v (map (weigh v) xs)) (λ n. inl (argument-weighed v n xs n))))

operated-weighed : (v : ℕ → ℕ) (b : Builtin) (arguments : List Term) → weigh v (operated b arguments) ≡ operated_weight b (map (weigh v) arguments)
operated-weighed v (Unary op) xs = ap (λ k. k + 1) (operand-weighed v xs 0)
operated-weighed v (Binary op) xs =
    let one = operand-weighed v xs 0 in
    let two = operand-weighed v xs 1 in
    omega (arith, one, two)

meant-weighed : (most : ℕ) (meaning : Meaning) (a : Affine) (body : Term) → (meaning ≡ Body → (v : ℕ → ℕ) → Alike most (weigh v body) (affine_at a.0 a.1 v)) → (v : ℕ → ℕ) (arguments : List Term)
    → Alike most (weigh v (meant meaning arguments body)) (meant_weight meaning a v (map (weigh v) arguments))
meant-weighed most Body a body h v xs = body-weighed most a.0 a.1 body (h refl) v xs
meant-weighed most (Operator b) a body h v xs = inl (operated-weighed v b xs)
meant-weighed most Nothing a body h v xs = inl refl

-- a use of a function, the number of nodes of whose body is an affine function
pub used-weighed : (most : ℕ) (f : Option Signature) (a : Affine) (body : Signature → Term)
    → ((g : Signature) → f ≡ Some g → g.meaning ≡ Body → (v : ℕ → ℕ) → Alike most (weigh v (body g)) (affine_at a.0 a.1 v)) → (v : ℕ → ℕ) (arguments : List Term)
    → Alike most (weigh v (used f arguments body)) (used_weight f a v (map (weigh v) arguments))
used-weighed most None a body h v xs = inl refl
used-weighed most (Some f) a body h v xs = meant-weighed most f.meaning a (body f) (h f refl) v xs
