-- Rules on bools, and the bool that says that they hold.
use Rattle.std.specs.Prelude.{◌≡◌, ℕ, Bool, true, false, not, ◌&&◌, ◌||◌, List, [], ◌∷◌, slice_get, Some, IsSome, IsTrue, if◌then◌else◌}
use Rattle.hy_val.specs.Values.{is_on}
use Rattle.hy_val.specs.declared.sort.ScalarKind.TheVariants.{Bool as BoolSort}
use Rattle.hy_val.specs.declared.sort.SortKind.TheVariants.{Scalar as ScalarSort}
use Rattle.hy_val.specs.declared.value.Value.{Value}
use Rattle.hy_term.specs.TermSorts.{sorts, sort_at}
use Rattle.hy_term.specs.Meaning.{value, fits, Grows}
use Rattle.hy_term.specs.Variables.{below}
use Rattle.hy_term.specs.declared.node.TermNode.{TermNode}
use Rattle.tree_terms.specs.declared.rules.Rule.{Rule}

abbrev pub IsBool : List TermNode → ℕ → Type 0
IsBool into t = sort_at into t ≡ Some (ScalarSort BoolSort)

abbrev pub bit : (ℕ → Value) → List TermNode → ℕ → Bool
bit a into t = is_on (value a into t)

-- where the first is true, one of the next two is, or, where it is negated, the next one isn't
abbrev pub rule_holds : (ℕ → Bool) → Rule → Bool
rule_holds v r = if v r.when then (if r.negated then not (v r.one) else (v r.one || v r.other)) else true

abbrev pub rules_hold : (ℕ → Bool) → List Rule → Bool
rules_hold v [] = true
rules_hold v (r ∷ rs) = rule_holds v r && rules_hold v rs

pub record RuleFits (into : List TermNode) (r : Rule) : Type 0 where
  pub when : IsBool into r.when
  pub one : IsBool into r.one
  pub other : IsBool into r.other

abbrev pub RulesFit : List TermNode → List Rule → Type 0
RulesFit into rules = (k : ℕ) (r : Rule) → slice_get rules k ≡ Some r → RuleFits into r

-- among terms that have grown with no variable, a bool of this meaning
pub record IsBit (old new : List TermNode) (meaning : (ℕ → Value) → Bool) (t : ℕ) : Type 0 where
  pub grows : Grows old new
  pub sorted : IsSome (sorts new)
  pub bool : IsBool new t
  pub fit : (a : ℕ → Value) → IsTrue (fits a old) → IsTrue (fits a new)
  pub low : (k : ℕ) → IsTrue (below k old) → IsTrue (below k new)
  pub means : (a : ℕ → Value) → IsTrue (fits a new) → bit a new t ≡ meaning a

-- a bool that is never true
pub record IsFalse (into : List TermNode) (t : ℕ) : Type 0 where
  pub bool : IsBool into t
  pub off : (a : ℕ → Value) → IsTrue (fits a into) → bit a into t ≡ false
