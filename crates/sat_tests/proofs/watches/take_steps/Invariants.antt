use Rattle.std.proofs.Common.{◌≡◌}
use Rattle.sat_tests.proofs.watches.take_steps.Given as goal

abbrev pub invariant-loop-step : goal.invariant-loop-step
invariant-loop-step g l = l.store.trail ≡ l.trail
