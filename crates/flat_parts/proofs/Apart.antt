-- Lists whose lengths don't fit each other.
use Rattle.std.proofs.Common.{◌≡◌, ℕ, suc, ◌-◌, Bool, true, false, ◌&&◌, List, [], ◌∷◌, length, arith, refl, ap, ◌∙◌}
use Rattle.std.specs.Prelude.{Some}
use Rattle.hy_val.specs.NodeSorts.{same_sort}
use Rattle.hy_val.specs.Scope.{Scope, expr_fits, sort_of_target, is_sort_of}
use Rattle.hy_val.specs.declared.expr.ExprNode.{ExprNode}
use Rattle.hy_val.specs.declared.expr.Var.{Var}
use Rattle.hy_val.specs.declared.sort.Sort.{Sort}
use Rattle.flat_prog.specs.Shape.{args_fit, targets_fit}
use Rattle.flat_parts.specs.Parts.{outs_follow}

no_and : (a b : Bool) → false ≡ b → false ≡ (a && b)
no_and true b h = h
no_and false b h = refl

pub args_apart : (scope : Scope) (sorts : List Sort) (args : List (List ExprNode)) → (length sorts ≡ length args → ⊥) → false ≡ args_fit scope sorts args
args_apart scope [] [] h = absurd (h refl)
args_apart scope [] (arg ∷ args) h = refl
args_apart scope (sort ∷ sorts) [] h = refl
args_apart scope (sort ∷ sorts) (arg ∷ args) h = no_and (expr_fits scope (Some sort) arg) (args_fit scope sorts args) (args_apart scope sorts args (λ e. h (ap suc e)))

pub targets_apart : (scope : Scope) (sorts : List Sort) (xs : List Var) → (length sorts ≡ length xs → ⊥) → false ≡ targets_fit scope sorts xs
targets_apart scope [] [] h = absurd (h refl)
targets_apart scope [] (x ∷ xs) h = refl
targets_apart scope (sort ∷ sorts) [] h = refl
targets_apart scope (sort ∷ sorts) (x ∷ xs) h = no_and (is_sort_of (sort_of_target scope x) sort) (targets_fit scope sorts xs) (targets_apart scope sorts xs (λ e. h (ap suc e)))

pub outs_apart : (ins outs : List Sort) → (length outs - length ins ≡ 1 → ⊥) → false ≡ outs_follow ins outs
outs_apart [] [] h = refl
outs_apart [] (s ∷ []) h = absurd (h refl)
outs_apart [] (s ∷ t ∷ ss) h = refl
outs_apart (i ∷ ins) [] h = refl
outs_apart (i ∷ ins) (s ∷ ss) h =
    let less : suc (length ss) - suc (length ins) ≡ length ss - length ins = omega arith in
    no_and (same_sort s i) (outs_follow ins ss) (outs_apart ins ss (λ e. h (less ∙ e)))
