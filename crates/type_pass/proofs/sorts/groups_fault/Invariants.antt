use Rattle.std.proofs.Common.{◌≡◌, drop}
use Rattle.std.specs.Prelude.{flat_map}
use Rattle.type_pass.specs.Faults.{earlier, first}
use Rattle.type_pass.specs.Sorts.{sort_faults}
use Rattle.type_pass.proofs.sorts.groups_fault.Given as goal

-- what was found comes before what the rest has
abbrev pub invariant-loop-group : goal.invariant-loop-group
invariant-loop-group l = earlier l.found (first (flat_map (λ g. sort_faults l.fn.types g.sort) (drop l.group-index l.groups))) ≡ first (flat_map (λ g. sort_faults l.fn.types g.sort) l.groups)
