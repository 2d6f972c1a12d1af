use Rattle.std.proofs.Common.{◌≡◌, drop}
use Rattle.std.specs.Prelude.{flat_map}
use Rattle.type_pass.specs.Faults.{earlier, first}
use Rattle.type_pass.specs.Commands.{name_faults}
use Rattle.type_pass.proofs.commands.names_fault.Given as goal

abbrev pub invariant-loop-name : goal.invariant-loop-name
invariant-loop-name l = earlier l.so_far (first (flat_map (name_faults l.known l.scope) (drop l.name-index l.names))) ≡ earlier l.fn.found (first (flat_map (name_faults l.known l.scope) l.names))
