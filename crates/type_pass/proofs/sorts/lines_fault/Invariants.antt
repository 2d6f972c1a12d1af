use Rattle.std.proofs.Common.{◌≡◌, drop}
use Rattle.std.specs.Prelude.{flat_map}
use Rattle.type_pass.specs.Faults.{earlier, first}
use Rattle.type_pass.specs.Sorts.{sort_faults}
use Rattle.type_pass.proofs.sorts.lines_fault.Given as goal

-- what was found comes before what the rest has
abbrev pub invariant-loop-line : goal.invariant-loop-line
invariant-loop-line l = earlier l.found (first (flat_map (λ v. flat_map (λ g. sort_faults l.fn.types g.sort) v.groups) (drop l.line-index l.lines))) ≡ first (flat_map (λ v. flat_map (λ g. sort_faults l.fn.types g.sort) v.groups) l.lines)
