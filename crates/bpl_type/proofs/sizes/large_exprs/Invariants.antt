use Rattle.std.proofs.Common.{◌≡◌, drop}
use Rattle.std.specs.Prelude.{flat_map}
use Rattle.type_pass.specs.Faults.{earlier, first}
use Rattle.bpl_type.specs.Sizes.{heavy_in}
use Rattle.bpl_type.proofs.sizes.large_exprs.Given as goal

abbrev pub invariant-loop-expr : goal.invariant-loop-expr
invariant-loop-expr l = earlier l.so_far (first (flat_map (heavy_in l.counting) (drop l.expr-index l.exprs))) ≡ earlier l.fn.found (first (flat_map (heavy_in l.counting) l.exprs))
