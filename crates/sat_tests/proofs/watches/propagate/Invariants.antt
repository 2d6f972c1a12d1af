use Rattle.std.proofs.Common.{◌≤◌}
use Rattle.sat_tests.proofs.watches.propagate.Given as goal

abbrev pub invariant-loop : goal.invariant-loop
invariant-loop l = l.count ≤ l.counter
