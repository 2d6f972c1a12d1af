-- What a store holds.
use Rattle.std.specs.Prelude.{ℕ, List}

-- the clauses by their numbers, and the assigned literals in their order
pub record Stored : Type 0 where
  pub clauses : List (List ℕ)
  pub trail : List ℕ
