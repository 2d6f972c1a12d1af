use Rattle.std.proofs.Common.{◌≡◌, drop}
use Rattle.std.specs.Prelude.{flat_map}
use Rattle.type_pass.specs.Faults.{earlier, first}
use Rattle.bpl_type.specs.Sizes.{heavy_in}
use Rattle.bpl_type.proofs.sizes.large_invariants.Given as goal

abbrev pub invariant-loop-invariant : goal.invariant-loop-invariant
invariant-loop-invariant l = earlier l.so_far (first (flat_map (λ i. heavy_in l.counting i.condition) (drop l.invariant-index l.invariants))) ≡ earlier l.fn.found (first (flat_map (λ i. heavy_in l.counting i.condition) l.invariants))
