use Rattle.std.proofs.Common.{◌≡◌, drop}
use Rattle.std.specs.Prelude.{flat_map, option_to_list}
use Rattle.type_pass.specs.Faults.{earlier, first}
use Rattle.bpl_type.specs.Sizes.{heavy_in}
use Rattle.bpl_type.proofs.sizes.large_targets.Given as goal

abbrev pub invariant-loop-target : goal.invariant-loop-target
invariant-loop-target l = earlier l.so_far (first (flat_map (λ t. flat_map (heavy_in l.counting) (option_to_list t.index)) (drop l.target-index l.targets))) ≡ earlier l.fn.found (first (flat_map (λ t. flat_map (heavy_in l.counting) (option_to_list t.index)) l.targets))
