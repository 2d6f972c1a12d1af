use Rattle.std.proofs.Common.{◌≡◌, ◌<◌}
use Rattle.piece_core.specs.Book.{to_come}
use Rattle.tree_query.specs.Asking.{IsOf}
use Rattle.engine.specs.Engine.{GoesOn}
use Rattle.engine.proofs.solo.work_on.Given as goal

abbrev pub invariant-loop-at : goal.invariant-loop-at
invariant-loop-at l = (l.book.task ≡ l.fn.book.task) × (to_come l.book < to_come l.fn.book) × GoesOn l.book l.worker.number l.at × IsOf l.fn.book.task.flat l.formulas

abbrev pub decreases-loop-at : goal.decreases-loop-at
decreases-loop-at l = to_come l.book
