-- Marks: bools that say of pairs of bools that both are true, as of a node that is reached and of something that it passes.
use Rattle.std.specs.Prelude.{◌≡◌, ◌<◌, ℕ, ◌&&◌, List, length, slice_get, slice_index, Some, IsSome, IsTrue}
use Rattle.hy_val.specs.declared.value.Value.{Value}
use Rattle.hy_term.specs.TermSorts.{sorts}
use Rattle.hy_term.specs.Meaning.{fits, Grows}
use Rattle.hy_term.specs.Variables.{below}
use Rattle.hy_term.specs.declared.node.TermNode.{TermNode}
use Rattle.tree_terms.specs.Rules.{IsBool, bit}

-- each pair is of bools
abbrev pub PairsFit : List TermNode → List (ℕ × ℕ) → Type 0
PairsFit into pairs = (k : ℕ) (x : ℕ × ℕ) → slice_get pairs k ≡ Some x → IsBool into x.0 × IsBool into x.1

-- among terms that have grown with no variable, one for each of the first pairs
pub record MarksTo (old new : List TermNode) (pairs : List (ℕ × ℕ)) (marks : List ℕ) (k : ℕ) : Type 0 where
  pub grows : Grows old new
  pub sorted : IsSome (sorts new)
  pub fit : (a : ℕ → Value) → IsTrue (fits a old) → IsTrue (fits a new)
  pub low : (k : ℕ) → IsTrue (below k old) → IsTrue (below k new)
  pub count : length marks ≡ k
  pub bools : (m : ℕ) → m < k → IsBool new (slice_index marks m)
  pub says : (a : ℕ → Value) → IsTrue (fits a new) → (m : ℕ) (x : ℕ × ℕ) → m < k → slice_get pairs m ≡ Some x → bit a new (slice_index marks m) ≡ (bit a old x.0 && bit a old x.1)
