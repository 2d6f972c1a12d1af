-- What is entered at a literal.
use Rattle.std.specs.Prelude.{ℕ, List, [], slice_index_or}

-- by the literal's code, the clauses that are entered there
abbrev pub list_at : List (List ℕ) → ℕ → List ℕ
list_at lists lit = slice_index_or lists lit []
