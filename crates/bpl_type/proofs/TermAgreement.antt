-- Where two meanings of functions agree on all that an expression uses, its terms are the same.
use Rattle.std.proofs.Common.{◌≡◌, ℕ, List, [], ◌∷◌, ◌++◌, map, fold, refl, sym, ◌∙◌, ap, subst}
use Rattle.std.specs.List.{AllByRecursion}
use Rattle.bpl_ast.specs.declared.expr.Bracket.{Bracket, roll-Bracket}
use Rattle.bpl_ast.specs.declared.expr.Bracket.TheFolds.{ind-Expr, map-Expr, map-Bracket, fold-roll-Expr, fold-roll-Bracket}
use Rattle.bpl_ast.specs.declared.expr.Bracket.TheOpen.{Bracket-F, Expr-F}
use Rattle.bpl_ast.specs.declared.expr.Expr.{Expr, roll-Expr}
use Rattle.hy_val.specs.declared.operator.BvOp.TheVariants.{And, Or, Implies, Iff, Eq, Ne, Concat}
use Rattle.hy_val.specs.declared.operator.UnOp.TheVariants.{Not}
use Rattle.type_pass.specs.declared.tables.Scope.{Scope}
use Rattle.type_pass.specs.declared.tables.Tables.{Tables}
use Rattle.type_pass.specs.Passes.{all_uses, uses, bracket_uses, expr_uses}
use Rattle.type_pass.specs.Replaced.{Use, term_by, bracket_term, bracket_node, term_node}
use Rattle.type_pass.specs.Terms.{Term, unary, binary, implied, choice, select, store, chain}
use Rattle.bpl_type.proofs.Elements.{all_split}
use Rattle.type_pass.specs.Uses.{in_bracket}

abbrev pub Names : Type 0
Names = List (List ℕ)

pub term-roll : (u : Use) (t : Tables) (s : Scope) (d : Expr-F Bracket Expr) → term_by u t s (roll-Expr d) ≡ term_node u t s (map-Expr Bracket Expr (Term → Term) Term (bracket_term u t s) (term_by u t s) d)
unfolding term_by bracket_term
term-roll u t s d = fold-roll-Expr (Term → Term) Term bracket_node (term_node u t s) d

pub bracket-roll : (u : Use) (t : Tables) (s : Scope) (d : Bracket-F Bracket Expr) → bracket_term u t s (roll-Bracket d) ≡ bracket_node (map-Bracket Bracket Expr (Term → Term) Term (bracket_term u t s) (term_by u t s) d)
unfolding term_by bracket_term
bracket-roll u t s d = fold-roll-Bracket (Term → Term) Term bracket_node (term_node u t s) d

pub uses-roll : (d : Expr-F Bracket Expr) → uses (roll-Expr d) ≡ expr_uses (map-Expr Bracket Expr Names Names in_bracket uses d)
unfolding uses in_bracket
uses-roll d = fold-roll-Expr Names Names bracket_uses expr_uses d

pub bracket-uses-roll : (d : Bracket-F Bracket Expr) → in_bracket (roll-Bracket d) ≡ bracket_uses (map-Bracket Bracket Expr Names Names in_bracket uses d)
unfolding uses in_bracket
bracket-uses-roll d = fold-roll-Bracket Names Names bracket_uses expr_uses d

-- the two give the same term to each use of the name
abbrev pub Agree : Use → Use → List ℕ → Type 0
Agree u v text = (arguments : List Term) → u text arguments ≡ v text arguments

module _ (u v : Use) (t : Tables) (s : Scope) where
  abbrev All : Names → Type 0
  All names = AllByRecursion (Agree u v) names

  abbrev Same : Expr → Type 0
  Same x = All (uses x) → term_by u t s x ≡ term_by v t s x

  abbrev SameBracket : Bracket → Type 0
  SameBracket b = All (in_bracket b) → (a : Term) → bracket_term u t s b a ≡ bracket_term v t s b a

  terms-same : {E : Type 0} (e : E → Expr) (ke : (c : E) → Same (e c)) (xs : List E) → All (all_uses (map uses (map e xs))) → map (term_by u t s) (map e xs) ≡ map (term_by v t s) (map e xs)
  terms-same e ke [] h = refl
  terms-same e ke (x ∷ xs) h =
      let r = all_split (Agree u v) (uses (e x)) (all_uses (map uses (map e xs))) h in
      ap (λ y. y ∷ map (term_by u t s) (map e xs)) (ke x r.0) ∙ ap (λ ys. term_by v t s (e x) ∷ ys) (terms-same e ke xs r.1)

  brackets-same : {B : Type 0} (b : B → Bracket) (kb : (c : B) → SameBracket (b c)) (bs : List B) (a : Term) → All (all_uses (map in_bracket (map b bs)))
      → fold (λ c k. k c) a (map (bracket_term u t s) (map b bs)) ≡ fold (λ c k. k c) a (map (bracket_term v t s) (map b bs))
  brackets-same b kb [] a h = refl
  brackets-same b kb (x ∷ xs) a h =
      let r = all_split (Agree u v) (in_bracket (b x)) (all_uses (map in_bracket (map b xs))) h in
      ap (λ y. fold (λ c k. k c) y (map (bracket_term u t s) (map b xs))) (kb x r.0 a) ∙ brackets-same b kb xs (bracket_term v t s (b x) a) r.1

  two-same : (x y : Expr) → Same x → Same y → All (uses x ++ uses y) → (join : Term → Term → Term) → join (term_by u t s x) (term_by u t s y) ≡ join (term_by v t s x) (term_by v t s y)
  two-same x y kx ky h join =
      let r = all_split (Agree u v) (uses x) (uses y) h in
      ap (λ a. join a (term_by u t s y)) (kx r.0) ∙ ap (join (term_by v t s x)) (ky r.1)

  bracket_step : {B E : Type 0} (b : B → Bracket) (e : E → Expr) (ke : (c : E) → Same (e c)) (y : Bracket-F B E) → SameBracket (roll-Bracket (map-Bracket B E Bracket Expr b e y))
  bracket_step b e ke (Bracket-F.Select x) h a =
      ap (λ k. k a) (bracket-roll u t s (Bracket-F.Select (e x))) ∙ ap (select a) (ke x (subst All (bracket-uses-roll (Bracket-F.Select (e x))) h)) ∙ ap (λ k. k a) (sym (bracket-roll v t s (Bracket-F.Select (e x))))
  bracket_step b e ke (Bracket-F.Store x y) h a =
      ap (λ k. k a) (bracket-roll u t s (Bracket-F.Store (e x) (e y)))
      ∙ two-same (e x) (e y) (ke x) (ke y) (subst All (bracket-uses-roll (Bracket-F.Store (e x) (e y))) h) (store a)
      ∙ ap (λ k. k a) (sym (bracket-roll v t s (Bracket-F.Store (e x) (e y))))
  bracket_step b e ke (Bracket-F.Extract high low) h a = ap (λ k. k a) (bracket-roll u t s (Bracket-F.Extract high low)) ∙ ap (λ k. k a) (sym (bracket-roll v t s (Bracket-F.Extract high low)))

  -- one node, whose operands are the same
  node-same : {B E : Type 0} (b : B → Bracket) (kb : (c : B) → SameBracket (b c)) (e : E → Expr) (ke : (c : E) → Same (e c)) (y : Expr-F B E)
      → All (expr_uses (map-Expr Bracket Expr Names Names in_bracket uses (map-Expr B E Bracket Expr b e y)))
      → term_node u t s (map-Expr Bracket Expr (Term → Term) Term (bracket_term u t s) (term_by u t s) (map-Expr B E Bracket Expr b e y))
      ≡ term_node v t s (map-Expr Bracket Expr (Term → Term) Term (bracket_term v t s) (term_by v t s) (map-Expr B E Bracket Expr b e y))
  node-same b kb e ke (Expr-F.True at) h = refl
  node-same b kb e ke (Expr-F.False at) h = refl
  node-same b kb e ke (Expr-F.Literal at width bits) h = refl
  node-same b kb e ke (Expr-F.Variable n) h = refl
  node-same b kb e ke (Expr-F.Apply f xs) h =
      let r = all_split (Agree u v) (all_uses (map uses (map e xs))) (f.text ∷ []) h in
      ap (u f.text) (terms-same e ke xs r.0) ∙ r.1.0 (map (term_by v t s) (map e xs))
  node-same b kb e ke (Expr-F.Post at x bs) h =
      let r = all_split (Agree u v) (uses (e x)) (all_uses (map in_bracket (map b bs))) h in
      ap (λ a. fold (λ c k. k c) a (map (bracket_term u t s) (map b bs))) (ke x r.0) ∙ brackets-same b kb bs (term_by v t s (e x)) r.1
  node-same b kb e ke (Expr-F.Not at x) h = ap (unary Not) (ke x h)
  node-same b kb e ke (Expr-F.Concat at xs) h = ap (chain (binary Concat)) (terms-same e ke xs h)
  node-same b kb e ke (Expr-F.Equal at x y) h = two-same (e x) (e y) (ke x) (ke y) h (binary Eq)
  node-same b kb e ke (Expr-F.NotEqual at x y) h = two-same (e x) (e y) (ke x) (ke y) h (binary Ne)
  node-same b kb e ke (Expr-F.And at xs) h = ap (chain (binary And)) (terms-same e ke xs h)
  node-same b kb e ke (Expr-F.Or at xs) h = ap (chain (binary Or)) (terms-same e ke xs h)
  node-same b kb e ke (Expr-F.Implies at x y) h = two-same (e x) (e y) (ke x) (ke y) h (binary Implies)
  node-same b kb e ke (Expr-F.ImpliedBy at xs) h = ap (chain implied) (terms-same e ke xs h)
  node-same b kb e ke (Expr-F.Equivalent at xs) h = ap (chain (binary Iff)) (terms-same e ke xs h)
  node-same b kb e ke (Expr-F.Choice at x y z) h =
      let r = all_split (Agree u v) (uses (e x) ++ uses (e y)) (uses (e z)) h in
      two-same (e x) (e y) (ke x) (ke y) r.0 (λ c a. choice c a (term_by u t s (e z))) ∙ ap (choice (term_by v t s (e x)) (term_by v t s (e y))) (ke z r.1)

  expr_step : {B E : Type 0} (b : B → Bracket) (kb : (c : B) → SameBracket (b c)) (e : E → Expr) (ke : (c : E) → Same (e c)) (y : Expr-F B E) → Same (roll-Expr (map-Expr B E Bracket Expr b e y))
  expr_step b kb e ke y h =
      term-roll u t s (map-Expr _ _ Bracket Expr b e y) ∙ node-same b kb e ke y (subst All (uses-roll (map-Expr _ _ Bracket Expr b e y)) h) ∙ sym (term-roll v t s (map-Expr _ _ Bracket Expr b e y))

  pub same-term : (x : Expr) → Same x
  same-term = ind-Expr SameBracket Same
      (λ x y same. subst (λ (w : Bracket-F Bracket Expr). SameBracket (roll-Bracket w)) same (bracket_step (λ c. c.0) (λ c. c.0) (λ c. c.1) y))
      (λ x y same. subst (λ (w : Expr-F Bracket Expr). Same (roll-Expr w)) same (expr_step (λ c. c.0) (λ c. c.1) (λ c. c.0) (λ c. c.1) y))
