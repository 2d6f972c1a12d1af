use Rattle.std.proofs.Common.{◌≡◌, []}
use Rattle.sat_tests.proofs.watches.rising_chain.Given as goal

abbrev pub invariant-loop-k : goal.invariant-loop-k
invariant-loop-k l = l.store.trail ≡ []
