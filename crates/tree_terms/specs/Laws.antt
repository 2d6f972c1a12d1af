-- Laws of terms that grow, and of nodes put behind others.
use Rattle.std.specs.Prelude.{◌≡◌, ℕ, ◌<◌, true, List, [], ◌∷◌, ◌++◌, length, Some, IsSome, IsTrue}
use Rattle.hy_val.specs.Operators.{sort_of_unary, sort_of_binary}
use Rattle.hy_val.specs.declared.operator.UnOp.{UnOp}
use Rattle.hy_val.specs.declared.operator.BvOp.{BvOp}
use Rattle.hy_val.specs.declared.sort.Scalar.{Scalar}
use Rattle.hy_val.specs.declared.sort.ScalarKind.TheVariants.{Bool as BoolSort}
use Rattle.hy_val.specs.declared.sort.Sort.{Sort}
use Rattle.hy_val.specs.declared.sort.SortKind.TheVariants.{Scalar as ScalarSort}
use Rattle.hy_val.specs.declared.value.Value.{Value}
use Rattle.hy_term.specs.TermSorts.{sorts, sort_at, sort_behind}
use Rattle.hy_term.specs.Meaning.{fits, node_fits, value}
use Rattle.hy_term.specs.Variables.{node_below}
use Rattle.hy_term.specs.declared.node.TermNode.{TermNode}
use Rattle.hy_term.specs.declared.node.TermNode.TheVariants.{Unary, Binary, If}
use Rattle.tree_terms.specs.Standing.{Later, Plain, AreOf, all_at}
use Rattle.tree_terms.specs.Copies.{IsPart}

-- what is said of terms stays so where more nodes stand behind them
pub record TermsStay : Type 0 where
  pub chain : (x y z : List TermNode) → Later x y → Later y z → Later x z
  pub plain_chain : (x y z : List TermNode) → Plain x y → Plain y z → Plain x z
  pub sort_stays : (x y : List TermNode) (t : ℕ) (s : Sort) → Later x y → sort_at x t ≡ Some s → sort_at y t ≡ Some s
  pub value_stays : (a : ℕ → Value) (x y : List TermNode) (t : ℕ) → Later x y → t < length x → value a y t ≡ value a x t
  pub are_still : (x y : List TermNode) (ts : List ℕ) (ss : List Sort) → Later x y → AreOf x ts ss → AreOf y ts ss
  pub all_stay : (a : ℕ → Value) (x y : List TermNode) (ts : List ℕ) (ss : List Sort) → Later x y → AreOf x ts ss → all_at a y ts ≡ all_at a x ts
  pub fitted : (a : ℕ → Value) (x y : List TermNode) → Later x y → IsTrue (fits a y) → IsTrue (fits a x)
  pub copies_stay : (nodes x y : List TermNode) (places : List ℕ) → IsSome (sorts nodes) → IsSome (sorts x) → Later x y → IsPart nodes x places → IsPart nodes y places

-- a node that has a sort behind others stands there with it
pub record NodesAreAdded : Type 0 where
  pub later : (x : List TermNode) (node : TermNode) (s : Sort) → sort_behind x node ≡ Some s → Later x (x ++ node ∷ [])
  pub sort_is : (x : List TermNode) (node : TermNode) (s : Sort) → sort_behind x node ≡ Some s → sort_at (x ++ node ∷ []) (length x) ≡ Some s
  pub plain : (x : List TermNode) (node : TermNode) → ((k : ℕ) → node_below k node ≡ true) → ((a : ℕ → Value) → node_fits a node ≡ true) → Plain x (x ++ node ∷ [])
  pub unary : (x : List TermNode) (op : UnOp) (c : ℕ) (s t : Scalar) → sort_at x c ≡ Some (ScalarSort s) → sort_of_unary op s ≡ Some t → sort_behind x (Unary op c) ≡ Some (ScalarSort t)
  pub binary : (x : List TermNode) (op : BvOp) (l r : ℕ) (s t u : Scalar) → sort_at x l ≡ Some (ScalarSort s) → sort_at x r ≡ Some (ScalarSort t) → sort_of_binary op s t ≡ Some u
      → sort_behind x (Binary op l r) ≡ Some (ScalarSort u)
  pub choice : (x : List TermNode) (c y n : ℕ) (s : Sort) → sort_at x c ≡ Some (ScalarSort BoolSort) → sort_at x y ≡ Some s → sort_at x n ≡ Some s → sort_behind x (If c y n) ≡ Some s
