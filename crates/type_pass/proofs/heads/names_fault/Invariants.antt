use Rattle.std.proofs.Common.{◌≡◌, drop}
use Rattle.std.specs.Prelude.{flat_map}
use Rattle.type_pass.specs.Faults.{earlier, first}
use Rattle.type_pass.specs.Passes.{modifies_faults}
use Rattle.type_pass.proofs.heads.names_fault.Given as goal

-- what was found comes before what the rest has
abbrev pub invariant-loop-name : goal.invariant-loop-name
invariant-loop-name l = earlier l.found (first (flat_map (modifies_faults l.fn.known) (drop l.name-index l.names))) ≡ first (flat_map (modifies_faults l.fn.known) l.names)
