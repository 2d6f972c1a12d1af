use Rattle.std.proofs.Common.{◌≡◌, drop}
use Rattle.std.specs.Prelude.{flat_map}
use Rattle.type_pass.specs.Faults.{earlier, first}
use Rattle.type_pass.specs.Sorts.{sort_faults}
use Rattle.type_pass.specs.Passes.{sorts_in}
use Rattle.type_pass.proofs.sorts.all_faults.Given as goal

-- what was found comes before what the rest has
abbrev pub invariant-loop-decl : goal.invariant-loop-decl
invariant-loop-decl l = earlier l.found (first (flat_map (λ d. flat_map (sort_faults l.fn.types) (sorts_in d)) (drop l.decl-index l.fn.ast.decls))) ≡ first (flat_map (λ d. flat_map (sort_faults l.fn.types) (sorts_in d)) l.fn.ast.decls)
