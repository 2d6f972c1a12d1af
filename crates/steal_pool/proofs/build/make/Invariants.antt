use Rattle.std.proofs.Common.{◌≡◌, length, map}
use Rattle.crossbeam_deque.specs.Handles.{stealer_deque}
use Rattle.steal_pool.specs.Seats.{owners}
use Rattle.steal_pool.specs.Build.{AreFresh}
use Rattle.steal_pool.proofs.build.make.Given as goal

abbrev pub invariant-loop-number : goal.invariant-loop-number
invariant-loop-number l = AreFresh l.all.items × (owners l.all.items ≡ map stealer_deque l.stealers.items) × (length l.all.items ≡ l.number)
