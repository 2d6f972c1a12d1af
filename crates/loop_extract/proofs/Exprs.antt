-- The expressions that extraction makes are ones.
use Rattle.std.proofs.Common.{◌≡◌, ℕ, ◌<◌, ◌^◌, Bool, true, List, [], ◌∷◌, ◌++◌, Some, None, if◌then◌else◌, is_some, ap, ◌∙◌}
use Rattle.std.proofs.lemmas.Bool.{lt-ltb}
use Rattle.std.specs.Option.{option_and_then}
use Rattle.hy_val.specs.Exprs.{is_expr, sorts_onto}
use Rattle.hy_val.specs.Laws.{RenamingKeepsAll}
use Rattle.hy_val.specs.NodeSorts.{is_sort}
use Rattle.hy_val.specs.Values.{default}
use Rattle.hy_val.specs.declared.expr.ExprNode.{ExprNode}
use Rattle.hy_val.specs.declared.expr.ExprNode.TheVariants.{Var as Read, Binary}
use Rattle.hy_val.specs.declared.expr.Var.{Var}
use Rattle.hy_val.specs.declared.expr.Var.TheVariants.{Local}
use Rattle.hy_val.specs.declared.operator.BvOp.TheVariants.{Eq}
use Rattle.hy_val.specs.declared.sort.Sort.{Sort}
use Rattle.flat_prog.specs.Shape.{exit_sort}
use Rattle.extract_def.specs.Renaming.{behind, moved, exit_number}

pub moved_expr : (by : ℕ) (nodes : List ExprNode) → RenamingKeepsAll → is_expr nodes ≡ true → is_expr (moved by nodes) ≡ true
moved_expr by [] keeps h = h
moved_expr by (n ∷ ns) keeps h = ap is_some (keeps (behind by) (λ x. default None) (n ∷ ns)).sorts ∙ h

pub read_expr : (x : Var) (s : Sort) → is_sort s ≡ true → is_expr (Read x s ∷ []) ≡ true
read_expr x s h = ap (λ (b : Bool). is_some (option_and_then (λ t. Some ([] ++ t ∷ [])) (if b then Some s else None))) h

pub number_expr : (x : ℕ) → x < 2 ^ 32 → is_expr (exit_number x ∷ []) ≡ true
number_expr x lt = ap (λ (b : Bool). is_some (option_and_then (λ t. Some ([] ++ t ∷ [])) (if b then Some exit_sort else None))) (lt-ltb x (2 ^ 32) lt)

pub test_expr : (local x : ℕ) → x < 2 ^ 32 → is_expr (Read (Local local) exit_sort ∷ exit_number x ∷ Binary Eq 0 1 ∷ []) ≡ true
test_expr local x lt = ap (λ (b : Bool). is_some (option_and_then (λ t. sorts_onto (exit_sort ∷ t ∷ []) (Binary Eq 0 1 ∷ [])) (if b then Some exit_sort else None))) (lt-ltb x (2 ^ 32) lt)
