use Rattle.std.proofs.Common.{length, ◌≡◌, List, ◌++◌, reverse}
use Rattle.std.specs.Prelude.{All}
use Rattle.std.specs.Arc.{arc_value}
use Rattle.piece_core.specs.declared.calls.BookCall.{BookCall}
use Rattle.piece_core.specs.Calls.{stand_of, RunsCalls, first_stand, MayCall}
use Rattle.piece_core.proofs.calls.any_run.Given as goal

abbrev pub invariant-loop-next : goal.invariant-loop-next
invariant-loop-next l = (l.book.task ≡ arc_value l.fn.task) × ((made : List BookCall) × (made ++ reverse l.calls.items ≡ l.fn.calls.items) × RunsCalls (arc_value l.fn.task) first_stand made (stand_of l.book)) × All MayCall l.calls.items

abbrev pub decreases-loop-next : goal.decreases-loop-next
decreases-loop-next l = length l.calls.items
