-- By induction on the tree: where an expression has a sort and the functions that it uses fit, its term has that sort.
use Rattle.std.proofs.Common.{List, [], ◌∷◌, map, sym, subst}
use Rattle.bpl_ast.specs.declared.expr.Bracket.{Bracket, roll-Bracket}
use Rattle.bpl_ast.specs.declared.expr.Bracket.TheFolds.{ind-Expr, map-Expr, map-Bracket}
use Rattle.bpl_ast.specs.declared.expr.Bracket.TheOpen.{Bracket-F, Expr-F}
use Rattle.bpl_ast.specs.declared.expr.Bracket.TheVariants.{rolls-Select, rolls-Store, rolls-Extract}
use Rattle.bpl_ast.specs.declared.expr.Expr.{Expr, roll-Expr}
use Rattle.bpl_ast.specs.declared.expr.Expr.TheVariants.{rolls-True, rolls-False, rolls-Literal, rolls-Variable, rolls-Apply, rolls-Post, rolls-Not, rolls-Concat, rolls-Equal, rolls-NotEqual, rolls-And, rolls-Or, rolls-Implies, rolls-ImpliedBy, rolls-Equivalent, rolls-Choice}
use Rattle.type_pass.specs.declared.tables.Scope.{Scope}
use Rattle.type_pass.specs.declared.tables.Tables.{Tables}
use Rattle.type_pass.specs.Replaced.{Use}
use Rattle.bpl_type.proofs.Fitted.{Known}
use Rattle.bpl_type.proofs.Preserved.{AreKnown, Preserved, Keeps, AllPreserved, AllKeep, true-is, false-is, literal-is, variable-is, apply-is, not-is, concat-is, and-is, or-is, implied_by-is, equivalent-is, equal-is, not_equal-is, implies-is, choice-is, select-keeps, store-keeps, extract-keeps, post-is}

module _ (knows : Known) (u : Use) (t : Tables) (s : Scope) (known : AreKnown knows t s) where
  all_preserved : {E : Type 0} (v : E → Expr) (kv : (c : E) → Preserved knows u t s (v c)) (cs : List E) → AllPreserved knows u t s (map v cs)
  all_preserved v kv [] = tt
  all_preserved v kv (c ∷ cs) = (kv c, all_preserved v kv cs)

  all_keep : {B : Type 0} (b : B → Bracket) (kb : (c : B) → Keeps knows u t s (b c)) (cs : List B) → AllKeep knows u t s known (map b cs)
  all_keep b kb [] = tt
  all_keep b kb (c ∷ cs) = (kb c, all_keep b kb cs)

  bracket_step : {B E : Type 0} (b : B → Bracket) (v : E → Expr) (kv : (c : E) → Preserved knows u t s (v c)) (y : Bracket-F B E) → Keeps knows u t s (roll-Bracket (map-Bracket B E Bracket Expr b v y))
  bracket_step b v kv (Bracket-F.Select x) = subst (Keeps knows u t s) (sym (rolls-Select (v x))) (select-keeps knows u t s known (v x) (kv x))
  bracket_step b v kv (Bracket-F.Store x y) = subst (Keeps knows u t s) (sym (rolls-Store (v x) (v y))) (store-keeps knows u t s known (v x) (v y) (kv x) (kv y))
  bracket_step b v kv (Bracket-F.Extract high low) = subst (Keeps knows u t s) (sym (rolls-Extract high low)) (extract-keeps knows u t s known high low)

  expr_step : {B E : Type 0} (b : B → Bracket) (kb : (c : B) → Keeps knows u t s (b c)) (v : E → Expr) (kv : (c : E) → Preserved knows u t s (v c)) (y : Expr-F B E)
      → Preserved knows u t s (roll-Expr (map-Expr B E Bracket Expr b v y))
  expr_step b kb v kv (Expr-F.True at) = subst (Preserved knows u t s) (sym (rolls-True at)) (true-is knows u t s known at)
  expr_step b kb v kv (Expr-F.False at) = subst (Preserved knows u t s) (sym (rolls-False at)) (false-is knows u t s known at)
  expr_step b kb v kv (Expr-F.Literal at width bits) = subst (Preserved knows u t s) (sym (rolls-Literal at width bits)) (literal-is knows u t s known at width bits)
  expr_step b kb v kv (Expr-F.Variable n) = subst (Preserved knows u t s) (sym (rolls-Variable n)) (variable-is knows u t s known n)
  expr_step b kb v kv (Expr-F.Apply f xs) = subst (Preserved knows u t s) (sym (rolls-Apply f (map v xs))) (apply-is knows u t s known f (map v xs) (all_preserved v kv xs))
  expr_step b kb v kv (Expr-F.Post at x bs) = subst (Preserved knows u t s) (sym (rolls-Post at (v x) (map b bs))) (post-is knows u t s known at (v x) (map b bs) (kv x) (all_keep b kb bs))
  expr_step b kb v kv (Expr-F.Not at x) = subst (Preserved knows u t s) (sym (rolls-Not at (v x))) (not-is knows u t s known at (v x) (kv x))
  expr_step b kb v kv (Expr-F.Concat at xs) = subst (Preserved knows u t s) (sym (rolls-Concat at (map v xs))) (concat-is knows u t s known at (map v xs) (all_preserved v kv xs))
  expr_step b kb v kv (Expr-F.Equal at x y) = subst (Preserved knows u t s) (sym (rolls-Equal at (v x) (v y))) (equal-is knows u t s known at (v x) (v y) (kv x) (kv y))
  expr_step b kb v kv (Expr-F.NotEqual at x y) = subst (Preserved knows u t s) (sym (rolls-NotEqual at (v x) (v y))) (not_equal-is knows u t s known at (v x) (v y) (kv x) (kv y))
  expr_step b kb v kv (Expr-F.And at xs) = subst (Preserved knows u t s) (sym (rolls-And at (map v xs))) (and-is knows u t s known at (map v xs) (all_preserved v kv xs))
  expr_step b kb v kv (Expr-F.Or at xs) = subst (Preserved knows u t s) (sym (rolls-Or at (map v xs))) (or-is knows u t s known at (map v xs) (all_preserved v kv xs))
  expr_step b kb v kv (Expr-F.Implies at x y) = subst (Preserved knows u t s) (sym (rolls-Implies at (v x) (v y))) (implies-is knows u t s known at (v x) (v y) (kv x) (kv y))
  expr_step b kb v kv (Expr-F.ImpliedBy at xs) = subst (Preserved knows u t s) (sym (rolls-ImpliedBy at (map v xs))) (implied_by-is knows u t s known at (map v xs) (all_preserved v kv xs))
  expr_step b kb v kv (Expr-F.Equivalent at xs) = subst (Preserved knows u t s) (sym (rolls-Equivalent at (map v xs))) (equivalent-is knows u t s known at (map v xs) (all_preserved v kv xs))
  expr_step b kb v kv (Expr-F.Choice at x y z) = subst (Preserved knows u t s) (sym (rolls-Choice at (v x) (v y) (v z))) (choice-is knows u t s known at (v x) (v y) (v z) (kv x) (kv y) (kv z))

  pub preserved : (x : Expr) → Preserved knows u t s x
  preserved = ind-Expr (Keeps knows u t s) (Preserved knows u t s)
      (λ x y same. subst (λ (w : Bracket-F Bracket Expr). Keeps knows u t s (roll-Bracket w)) same (bracket_step (λ c. c.0) (λ c. c.0) (λ c. c.1) y))
      (λ x y same. subst (λ (w : Expr-F Bracket Expr). Preserved knows u t s (roll-Expr w)) same (expr_step (λ c. c.0) (λ c. c.1) (λ c. c.0) (λ c. c.1) y))
