use Rattle.std.proofs.Common.{◌≡◌, None, drop}
use Rattle.bpl_flow.specs.Flow.{first_behind}
use Rattle.bpl_flow.proofs.faults.least.Given as goal

abbrev pub invariant-loop-fault : goal.invariant-loop-fault
invariant-loop-fault l = first_behind l.found (drop l.fault-index l.faults) ≡ first_behind None l.faults
