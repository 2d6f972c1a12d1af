-- Laws of the definitions.
use Rattle.std.specs.Prelude.{◌≡◌, ℕ, ◌-◌, List, [], length, slice_get, Option, Some, Ok, IsTrue}
use Rattle.std.specs.Option.{option_and_then}
use Rattle.hy_val.specs.Exprs.{sorts_onto, is_expr}
use Rattle.hy_val.specs.declared.expr.ExprNode.{ExprNode}
use Rattle.hy_val.specs.declared.sort.Sort.{Sort}
use Rattle.bpl_ast.specs.declared.decl.Ast.{Ast}
use Rattle.bpl_type.specs.declared.typed.Typed.{Typed}
use Rattle.bpl_type.specs.Checked.{checked_within}
use Rattle.bpl_type.specs.WellTyped.{is_typed}
use Rattle.type_pass.specs.Terms.{Term, size, nodes_of, term_sort}

-- the sort of an expression, which is that of its last node
abbrev pub expr_sort : List ExprNode → Option Sort
expr_sort nodes = option_and_then (λ sorts. slice_get sorts (length nodes - 1)) (sorts_onto [] nodes)

-- A term has as many nodes as are counted. Where its sorts fit, they are an expression of its sort.
pub record AreNodesOf (t : Term) : Type 0 where
  pub counted : length (nodes_of t) ≡ size t
  pub is_expr : (s : Sort) → term_sort t ≡ Some s → IsTrue (is_expr (nodes_of t))
  pub has_sort : (s : Sort) → term_sort t ≡ Some s → expr_sort (nodes_of t) ≡ Some s

abbrev pub TermsAreExpressions : Type 0
TermsAreExpressions = (t : Term) → AreNodesOf t

-- a program without faults is well typed
abbrev pub CheckedProgramsAreTyped : Type 0
CheckedProgramsAreTyped = (ast : Ast) (limit : ℕ) (typed : Typed) → checked_within limit ast ≡ Ok typed → IsTrue (is_typed typed)
