use Rattle.std.proofs.Common.{◌≡◌}
use Rattle.piece_core.specs.Book.{to_come}
use Rattle.tree_query.specs.Asking.{IsOf}
use Rattle.engine.proofs.solo.search.Given as goal

abbrev pub invariant-loop-node : goal.invariant-loop-node
invariant-loop-node l = (l.book.task ≡ l.fn.book.task) × IsOf l.fn.book.task.flat l.formulas

abbrev pub decreases-loop-node : goal.decreases-loop-node
decreases-loop-node l = to_come l.book
