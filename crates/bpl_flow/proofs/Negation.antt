-- The negation of a bool expression is an expression.
use Rattle.std.proofs.Common.{◌≡◌, ℕ, ◌-◌, true, not, List, [], ◌∷◌, ◌++◌, length, Option, None, Some, is_some, refl, sym, ap, subst, ◌∙◌, ◌<◌, arith}
use Rattle.std.specs.Option.{option_and_then}
use Rattle.std.specs.Prelude.{slice_get}
use Rattle.bpl_flow.specs.Fits.{is_bool}
use Rattle.bpl_flow.specs.Walk.{negated}
use Rattle.hy_val.specs.Exprs.{sort_of_node, sorts_onto, is_empty, is_expr}
use Rattle.hy_val.specs.NodeSorts.{as_scalar, unary_sort}
use Rattle.hy_val.specs.declared.expr.ExprNode.{ExprNode}
use Rattle.hy_val.specs.declared.expr.ExprNode.TheVariants.{Unary}
use Rattle.hy_val.specs.declared.operator.UnOp.TheVariants.{Not}
use Rattle.hy_val.specs.declared.sort.Sort.{Sort}
use Rattle.hy_val.specs.declared.sort.ScalarKind.TheVariants.{Bool as BoolSort, Bv as BvSort}
use Rattle.hy_val.specs.declared.sort.SortKind.TheVariants.{Scalar as ScalarSort, Map as MapSort}
use Rattle.hy_val.specs.Scope.{are_same}

pub and_then-same : {A B : Type 0} (o : Option A) (f h : A → Option B) (g : B → Option B) → ((s : A) → h s ≡ option_and_then g (f s)) → option_and_then h o ≡ option_and_then g (option_and_then f o)
and_then-same None f h g e = refl
and_then-same (Some s) f h g e = e s

pub sorts_onto-append : (known : List Sort) (xs ys : List ExprNode) → sorts_onto known (xs ++ ys) ≡ option_and_then (λ ks. sorts_onto ks ys) (sorts_onto known xs)
sorts_onto-append known [] ys = refl
sorts_onto-append known (x ∷ xs) ys =
    and_then-same (sort_of_node known x) (λ s. sorts_onto (known ++ s ∷ []) xs) (λ s. sorts_onto (known ++ s ∷ []) (xs ++ ys)) (λ ks. sorts_onto ks ys) (λ s. sorts_onto-append (known ++ s ∷ []) xs ys)

not_of : (sorts : List Sort) (o : Option Sort) → are_same o (Some (ScalarSort BoolSort)) ≡ true
    → is_some (option_and_then (λ s. sorts_onto (sorts ++ s ∷ []) []) (unary_sort Not (as_scalar o))) ≡ true
not_of sorts None h = cc
not_of sorts (Some (ScalarSort BoolSort)) h = refl
not_of sorts (Some (ScalarSort (BvSort w))) h = cc
not_of sorts (Some (MapSort index elem)) h = cc

not_behind : (o : Option (List Sort)) (k : ℕ) → are_same (option_and_then (λ sorts. slice_get sorts k) o) (Some (ScalarSort BoolSort)) ≡ true
    → is_some (option_and_then (λ sorts. sorts_onto sorts (Unary Not k ∷ [])) o) ≡ true
not_behind None k h = cc
not_behind (Some sorts) k h = not_of sorts (slice_get sorts k) h

not_empty : (xs : List ExprNode) (x : ExprNode) → not (is_empty (xs ++ x ∷ [])) ≡ true
not_empty [] x = refl
not_empty (y ∷ xs) x = refl

pub negated_is_expr : (nodes : List ExprNode) → is_bool nodes ≡ true → is_expr (negated nodes) ≡ true
negated_is_expr nodes h =
    rw (not_empty nodes (Unary Not (length nodes - 1)), sorts_onto-append [] nodes (Unary Not (length nodes - 1) ∷ [])) (not_behind (sorts_onto [] nodes) (length nodes - 1) h)

-- the same, of nodes that are equal to these
pub negated_from : (nodes same ns : List ExprNode) → is_bool nodes ≡ true → same ≡ nodes → ns ≡ negated same → is_expr ns ≡ true
negated_from nodes same ns h e f = subst (λ xs. is_expr xs ≡ true) (sym (f ∙ ap negated e)) (negated_is_expr nodes h)

-- a bool has nodes
bool_nodes : (nodes : List ExprNode) → is_bool nodes ≡ true → 0 < length nodes
bool_nodes [] h = cc
bool_nodes (x ∷ xs) h = omega arith

pub some_nodes : (same nodes : List ExprNode) → same ≡ nodes → is_bool nodes ≡ true → 0 < length same
some_nodes same nodes e h = omega (arith, ap length e, bool_nodes nodes h)
