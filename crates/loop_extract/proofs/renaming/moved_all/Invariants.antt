use Rattle.std.proofs.Common.{◌≡◌, map, take}
use Rattle.extract_def.specs.Renaming.{moved}
use Rattle.loop_extract.proofs.renaming.moved_all.Given as goal

abbrev pub invariant-loop-expr : goal.invariant-loop-expr
invariant-loop-expr l = l.all ≡ map (moved l.by) (take l.expr-index l.exprs)
