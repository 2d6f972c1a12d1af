use Rattle.std.proofs.Common.{◌≡◌, ℕ, [], length}
use Rattle.tree_terms.specs.Tables.{row}
use Rattle.tree_terms.proofs.table.Table.new.Given as goal

abbrev pub invariant-loop : goal.invariant-loop
invariant-loop l = (length l.rows.items ≡ l.counter) × ((m : ℕ) → row l.rows.items m ≡ [])
