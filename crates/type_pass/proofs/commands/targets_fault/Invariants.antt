use Rattle.std.proofs.Common.{◌≡◌, drop}
use Rattle.std.specs.Prelude.{flat_map}
use Rattle.type_pass.specs.Faults.{earlier, first}
use Rattle.type_pass.specs.Commands.{target_faults}
use Rattle.type_pass.proofs.commands.targets_fault.Given as goal

abbrev pub invariant-loop-target : goal.invariant-loop-target
invariant-loop-target l = earlier l.so_far (first (flat_map (target_faults l.known l.scope) (drop l.target-index l.targets))) ≡ earlier l.fn.found (first (flat_map (target_faults l.known l.scope) l.targets))
