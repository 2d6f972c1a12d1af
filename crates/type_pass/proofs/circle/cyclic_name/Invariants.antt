use Rattle.std.proofs.Common.{◌≡◌, map, drop}
use Rattle.std.specs.Prelude.{flat_map}
use Rattle.std.specs.List.{enumerate_from}
use Rattle.type_pass.specs.declared.fault.TypeKind.TheVariants.{Cyclic}
use Rattle.type_pass.specs.Faults.{earlier, first, told}
use Rattle.type_pass.specs.Graphs.{is_on_circle}
use Rattle.type_pass.specs.Passes.{cyclic_names}
use Rattle.type_pass.proofs.circle.cyclic_name.Given as goal

-- what was found comes before what the rest of the names has
abbrev pub invariant-loop-node : goal.invariant-loop-node
invariant-loop-node l =
    earlier l.found (first (flat_map (λ m. told (is_on_circle l.graph m.0) m.1.at Cyclic) (enumerate_from l.node (map (λ m. m.now) (drop l.node l.names))))) ≡ first (cyclic_names l.graph (map (λ m. m.now) l.names))
