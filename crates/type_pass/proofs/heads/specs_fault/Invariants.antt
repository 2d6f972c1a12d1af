use Rattle.std.proofs.Common.{◌≡◌, drop}
use Rattle.std.specs.Prelude.{flat_map}
use Rattle.type_pass.specs.Faults.{earlier, first}
use Rattle.type_pass.specs.Passes.{modifies_faults}
use Rattle.type_pass.proofs.heads.specs_fault.Given as goal

-- what was found comes before what the rest has
abbrev pub invariant-loop-spec : goal.invariant-loop-spec
invariant-loop-spec l = earlier l.found (first (flat_map (λ s. flat_map (modifies_faults l.fn.known) s.names) (drop l.spec-index l.specs))) ≡ first (flat_map (λ s. flat_map (modifies_faults l.fn.known) s.names) l.specs)
