use Rattle.std.proofs.Common.{◌≡◌, map, drop, Some}
use Rattle.type_pass.specs.Faults.{earlier, first}
use Rattle.type_pass.specs.Commands.{values_faults}
use Rattle.type_pass.specs.ExprSorts.{part}
use Rattle.type_pass.proofs.commands.arguments_fault.Given as goal

abbrev pub invariant-loop-number : goal.invariant-loop-number
invariant-loop-number l = earlier l.so_far (first (values_faults (map Some (drop l.number l.ins)) (map (part l.known l.scope) (drop l.number l.arguments)))) ≡ earlier l.fn.found (first (values_faults (map Some l.ins) (map (part l.known l.scope) l.arguments)))
