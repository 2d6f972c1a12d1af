-- Each node of an expression fits behind those before it.
use Rattle.std.proofs.Common.{◌≡◌, ℕ, zero, suc, ◌<◌, true, false, List, [], ◌∷◌, ◌++◌, length, take, arith, refl}
use Rattle.std.specs.Prelude.{Option, None, Some, IsSome, IsTrue, slice_index_or, not, is_some}
use Rattle.std.specs.Option.{option_and_then}
use Rattle.std.proofs.lemmas.Bool.{and_parts}
use Rattle.hy_val.specs.Exprs.{sort_of_node, sorts_onto, is_empty, is_expr}
use Rattle.hy_val.specs.Building.{sort_next}
use Rattle.hy_val.specs.declared.expr.ExprNode.{ExprNode}
use Rattle.hy_val.specs.declared.sort.Sort.{Sort}

fits_first : (o : Option Sort) (f : Sort → Option (List Sort)) → is_some (option_and_then f o) ≡ true → is_some o ≡ true
fits_first None f h = h
fits_first (Some s) f h = refl

fits_later : (o : Option Sort) (known : List Sort) (nodes : List ExprNode) (i : ℕ) (g : List Sort → Option Sort) →
    ((s : Sort) → is_some (sorts_onto (known ++ s ∷ []) nodes) ≡ true → is_some (option_and_then g (sorts_onto (known ++ s ∷ []) (take i nodes))) ≡ true) →
    is_some (option_and_then (λ s. sorts_onto (known ++ s ∷ []) nodes) o) ≡ true → is_some (option_and_then g (option_and_then (λ s. sorts_onto (known ++ s ∷ []) (take i nodes)) o)) ≡ true
fits_later None known nodes i g rest h = h
fits_later (Some s) known nodes i g rest h = rest s h

fits_at : (known : List Sort) (nodes : List ExprNode) (d : ExprNode) (i : ℕ) → i < length nodes → is_some (sorts_onto known nodes) ≡ true →
    is_some (option_and_then (λ sorts. sort_of_node sorts (slice_index_or nodes i d)) (sorts_onto known (take i nodes))) ≡ true
fits_at known [] d i l h = absurd (omega (arith, l))
fits_at known (node ∷ nodes) d zero l h = fits_first (sort_of_node known node) (λ s. sorts_onto (known ++ s ∷ []) nodes) h
fits_at known (node ∷ nodes) d (suc i) l h =
    fits_later (sort_of_node known node) known nodes i (λ sorts. sort_of_node sorts (slice_index_or nodes i d)) (λ s. fits_at (known ++ s ∷ []) nodes d i (omega (arith, l))) h

pub next_fits : (nodes : List ExprNode) (d : ExprNode) (i : ℕ) → IsTrue (is_expr nodes) → i < length nodes → IsSome (sort_next (take i nodes) (slice_index_or nodes i d))
next_fits nodes d i ok l = fits_at [] nodes d i l (and_parts (not (is_empty nodes)) (is_some (sorts_onto [] nodes)) ok).1
