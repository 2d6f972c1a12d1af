use Rattle.std.proofs.Common.{◌≡◌, ℕ, zero, sym, ap, refl, subst, arith}
use Rattle.flat_prog.specs.Shape.{IsFlat}
use Rattle.piece_core.specs.declared.tasks.Task.{Task}
use Rattle.std.specs.Arc.{arc_value}
use Rattle.piece_core.proofs.Steps.{kept_opening, opening_indexed}
use Rattle.piece_core.proofs.books.Book.open.Goals as goal

pub invariant_of-result : goal.invariant_of-result
invariant_of-result c = rw (c.new.ensures.items, c.in_ok-push-2.ensures.items, c.new-nodes.ensures.items, c.whole.ensures, c.in_ok-root.ensures, c.in_ok-push.ensures.items, c.new-firsts.ensures.items)
    (kept_opening (arc_value c.args.task) _ (subst (λ (t : Task). IsFlat t.flat) c.deref.ensures c.consts.ensures.kept) c.requires, opening_indexed)
