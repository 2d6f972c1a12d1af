use Rattle.std.proofs.Common.{◌≡◌, drop}
use Rattle.std.specs.Prelude.{flat_map}
use Rattle.type_pass.specs.Faults.{earlier, first}
use Rattle.type_pass.specs.Passes.{unique_faults}
use Rattle.type_pass.proofs.sorts.all_uniques.Given as goal

-- what was found comes before what the rest has
abbrev pub invariant-loop-decl : goal.invariant-loop-decl
invariant-loop-decl l = earlier l.found (first (flat_map (unique_faults l.fn.types) (drop l.decl-index l.fn.ast.decls))) ≡ first (flat_map (unique_faults l.fn.types) l.fn.ast.decls)
