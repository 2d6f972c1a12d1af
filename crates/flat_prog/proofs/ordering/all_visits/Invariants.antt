use Rattle.std.proofs.Common.{◌≡◌}
use Rattle.flat_prog.specs.Searching.{all_entries}
use Rattle.flat_prog.proofs.ordering.all_visits.Given as goal

abbrev pub invariant-loop-block : goal.invariant-loop-block
invariant-loop-block l = l.visits ≡ all_entries l.block
