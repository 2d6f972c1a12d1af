use Rattle.std.proofs.Common.{◌≡◌, drop}
use Rattle.std.specs.Prelude.{flat_map}
use Rattle.type_pass.specs.Faults.{earlier, first}
use Rattle.type_pass.specs.Commands.{condition_faults}
use Rattle.type_pass.proofs.commands.invariants_fault.Given as goal

abbrev pub invariant-loop-invariant : goal.invariant-loop-invariant
invariant-loop-invariant l = earlier l.so_far (first (flat_map (λ i. condition_faults l.known l.scope i.condition) (drop l.invariant-index l.invariants))) ≡ earlier l.fn.found (first (flat_map (λ i. condition_faults l.known l.scope i.condition) l.invariants))
