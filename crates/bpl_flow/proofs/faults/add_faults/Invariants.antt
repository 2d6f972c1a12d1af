use Rattle.std.proofs.Common.{◌≡◌, ◌++◌, take}
use Rattle.bpl_flow.proofs.faults.add_faults.Given as goal

abbrev pub invariant-loop-fault : goal.invariant-loop-fault
invariant-loop-fault l = l.faults ≡ l.initial.faults ++ take l.fault-index l.walk.faults
