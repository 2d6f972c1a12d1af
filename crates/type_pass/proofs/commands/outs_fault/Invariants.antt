use Rattle.std.proofs.Common.{◌≡◌, drop}
use Rattle.type_pass.specs.Faults.{earlier, first}
use Rattle.type_pass.specs.Commands.{outs_faults}
use Rattle.type_pass.proofs.commands.outs_fault.Given as goal

abbrev pub invariant-loop-number : goal.invariant-loop-number
invariant-loop-number l = earlier l.so_far (first (outs_faults l.known l.scope (drop l.number l.outs) (drop l.number l.names))) ≡ earlier l.fn.found (first (outs_faults l.known l.scope l.outs l.names))
