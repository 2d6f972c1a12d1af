use Rattle.std.proofs.Common.{◌≡◌, drop}
use Rattle.std.specs.Prelude.{flat_map}
use Rattle.type_pass.specs.Faults.{earlier, first}
use Rattle.type_pass.specs.Told.{parameter_faults}
use Rattle.type_pass.proofs.sorts.parameters_fault.Given as goal

-- what was found comes before what the rest has
abbrev pub invariant-loop-group : goal.invariant-loop-group
invariant-loop-group l = earlier l.found (first (flat_map (parameter_faults l.fn.types) (drop l.group-index l.groups))) ≡ first (flat_map (parameter_faults l.fn.types) l.groups)
