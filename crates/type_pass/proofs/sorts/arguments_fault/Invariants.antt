use Rattle.std.proofs.Common.{◌≡◌, drop}
use Rattle.std.specs.Prelude.{flat_map}
use Rattle.type_pass.specs.Faults.{earlier, first}
use Rattle.type_pass.specs.Sorts.{sort_faults}
use Rattle.type_pass.proofs.sorts.arguments_fault.Given as goal

-- what was found comes before what the rest has
abbrev pub invariant-loop-argument : goal.invariant-loop-argument
invariant-loop-argument l = earlier l.found (first (flat_map (λ a. sort_faults l.fn.types a.sort) (drop l.argument-index l.arguments))) ≡ first (flat_map (λ a. sort_faults l.fn.types a.sort) l.arguments)
