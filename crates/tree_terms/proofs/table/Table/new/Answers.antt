use Rattle.std.proofs.Common.{◌≡◌, ℕ, ◌+◌, List, [], ◌∷◌, ◌++◌, length, ap, ◌∙◌, length-append}
use Rattle.tree_terms.specs.Tables.{row}
use Rattle.tree_terms.proofs.Rows.{row_more}
use Rattle.tree_terms.proofs.table.Table.new.Goals as goal

pub loop-preserved : goal.loop-preserved
loop-preserved c =
    let e : c.push.new.self.items ≡ c.loop.rows.items ++ [] ∷ [] = c.in_ok-push.ensures.items ∙ ap (λ (r : List ℕ). c.loop.rows.items ++ r ∷ []) c.new.ensures in (
      ap length e ∙ (length-append c.loop.rows.items ([] ∷ []) ∙ ap (λ (n : ℕ). n + 1) c.loop.invariant.0),
      λ m. ap (λ (t : List (List ℕ)). row t m) e ∙ row_more c.loop.rows.items m c.loop.invariant.1,
    )
