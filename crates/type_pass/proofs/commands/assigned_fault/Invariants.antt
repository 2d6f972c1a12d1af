use Rattle.std.proofs.Common.{◌≡◌, map, drop}
use Rattle.type_pass.specs.Faults.{earlier, first}
use Rattle.type_pass.specs.Commands.{values_faults, sort_of_target}
use Rattle.type_pass.specs.ExprSorts.{part}
use Rattle.type_pass.proofs.commands.assigned_fault.Given as goal

abbrev pub invariant-loop-number : goal.invariant-loop-number
invariant-loop-number l = earlier l.so_far (first (values_faults (map (sort_of_target l.known l.scope) (drop l.number l.targets)) (map (part l.known l.scope) (drop l.number l.values)))) ≡ earlier l.fn.found (first (values_faults (map (sort_of_target l.known l.scope) l.targets) (map (part l.known l.scope) l.values)))
