use Rattle.std.proofs.Common.{◌≡◌, drop}
use Rattle.std.specs.Prelude.{flat_map}
use Rattle.type_pass.specs.Faults.{earlier, first}
use Rattle.bpl_type.specs.Sizes.{heavy_stmt}
use Rattle.bpl_type.proofs.sizes.+large.Given as goal

abbrev pub invariant-large_stmts-loop-stmt : goal.invariant-large_stmts-loop-stmt
invariant-large_stmts-loop-stmt l = earlier l.so_far (first (flat_map (heavy_stmt l.counting) (drop l.stmt-index l.stmts))) ≡ earlier l.fn.found (first (flat_map (heavy_stmt l.counting) l.stmts))
