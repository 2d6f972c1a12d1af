use Rattle.std.proofs.Common.{List, ℕ, subst, ◌∙◌, length, ◌<◌, sym, ap}
use Rattle.tree_terms.specs.Tables.{row}
use Rattle.tree_terms.proofs.Rows.{row_got}
use Rattle.tree_terms.proofs.table.Table.row.Goals as goal

pub returns : goal.returns
returns c =
    c.as_slice.ensures
    ∙ (row_got c.self.inside.rows.items c.args.node c.index.result.now (subst (λ (t : List (List ℕ)). c.args.node < length t) (sym c.self.view_is) c.requires) c.index.ensures
    ∙ ap (λ (t : List (List ℕ)). row t c.args.node) c.self.view_is)
