use Rattle.std.proofs.Common.{List, ℕ, subst, length, ◌<◌, sym, slice_set}
use Rattle.tree_terms.specs.Tables.{IsPushed}
use Rattle.tree_terms.proofs.Rows.{pushed_row}
use Rattle.tree_terms.proofs.table.Table.push.Goals as goal

pub returns : goal.returns
returns c =
    subst (λ (t : List (List ℕ)). IsPushed t (slice_set c.self.inside.rows.items c.args.node c.push.new.self) c.args.node c.args.number) c.self.view_is
    (pushed_row c.self.inside.rows.items c.args.node c.args.number c.index_mut.result.now c.push.new.self
    (subst (λ (t : List (List ℕ)). c.args.node < length t) (sym c.self.view_is) c.requires) c.index_mut.ensures.value c.in_ok-push.ensures.ok)
