-- The terms behind which formulas are copied, once more stands behind those of an opening.
use Rattle.std.specs.Prelude.{◌≡◌, ℕ, List, length, IsSome, IsTrue}
use Rattle.hy_val.specs.declared.value.Value.{Value}
use Rattle.hy_term.specs.TermSorts.{sorts}
use Rattle.hy_term.specs.Meaning.{fits, Grows}
use Rattle.hy_term.specs.Variables.{below}
use Rattle.hy_term.specs.declared.node.TermNode.{TermNode}
use Rattle.flat_prog.specs.Program.{FlatProgram}
use Rattle.flat_prog.specs.Runs.{are_allowed}
use Rattle.tree_terms.specs.Reach.{IsAlways}
use Rattle.tree_terms.specs.Rules.{IsBool, IsFalse, bit}
use Rattle.tree_terms.specs.Standing.{all_at}
use Rattle.tree_query.specs.Opening.{CanHaveValues, HasTerms}
use Rattle.tree_query.specs.declared.opening.BaseTerms.{BaseTerms}

-- Behind the terms of an opening stand nodes that are no variables, among them a bool that is true where the constants are allowed, one that always is, and one
-- that never is.
pub record IsFoundation (flat : FlatProgram) (entry : ℕ) (nodes : List TermNode) (consts globals args : List ℕ) (allowed always never : ℕ) : Type 0 where
  pub opening : BaseTerms
  pub has : HasTerms flat entry opening.terms.nodes opening
  pub can : CanHaveValues flat entry opening.terms.nodes opening
  pub grows : Grows opening.terms.nodes nodes
  pub sorted : IsSome (sorts nodes)
  pub fit : (a : ℕ → Value) → IsTrue (fits a opening.terms.nodes) → IsTrue (fits a nodes)
  pub low : IsTrue (below (length nodes) nodes)
  pub consts_are : consts ≡ opening.consts
  pub globals_are : globals ≡ opening.globals
  pub args_are : args ≡ opening.args
  pub bool : IsBool nodes allowed
  pub says : (a : ℕ → Value) → IsTrue (fits a nodes) → bit a nodes allowed ≡ are_allowed flat (all_at a nodes consts)
  pub is_always : IsAlways nodes always
  pub is_never : IsFalse nodes never
