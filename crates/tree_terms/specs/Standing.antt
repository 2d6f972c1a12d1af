-- Terms that grow: what stays of the old ones, and terms in a row, with their sorts and their values.
use Rattle.std.specs.Prelude.{◌≡◌, ℕ, List, [], ◌∷◌, map, Some, IsTrue, IsSome}
use Rattle.hy_val.specs.declared.value.Value.{Value}
use Rattle.hy_val.specs.declared.sort.Sort.{Sort}
use Rattle.hy_val.specs.Values.{at}
use Rattle.hy_term.specs.TermSorts.{sorts, sort_at}
use Rattle.hy_term.specs.Meaning.{Grows, fits, values}
use Rattle.hy_term.specs.Variables.{below}
use Rattle.hy_term.specs.declared.node.TermNode.{TermNode}

-- more nodes stand behind the old ones, and all have their sorts
pub record Later (old new : List TermNode) : Type 0 where
  pub nodes : Grows old new
  pub sound : IsSome (sorts new)

-- no variable is new: numbers that were above all others stay so, and what fitted fits
pub record Plain (old new : List TermNode) : Type 0 where
  pub below : (k : ℕ) → IsTrue (below k old) → IsTrue (below k new)
  pub fit : (a : ℕ → Value) → IsTrue (fits a old) → IsTrue (fits a new)

-- nodes of these sorts, in order
abbrev pub AreOf : List TermNode → List ℕ → List Sort → Type 0
AreOf nodes [] [] = Unit {0}
AreOf nodes [] (s ∷ ss) = ⊥
AreOf nodes (t ∷ ts) [] = ⊥
AreOf nodes (t ∷ ts) (s ∷ ss) = (sort_at nodes t ≡ Some s) × AreOf nodes ts ss

-- the values of these nodes, in order
abbrev pub all_at : (ℕ → Value) → List TermNode → List ℕ → List Value
all_at a nodes ts = map (at (values a nodes)) ts
