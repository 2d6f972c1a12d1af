use Rattle.std.proofs.Common.{◌≡◌, map, take}
use Rattle.flat_prog.specs.Limits.{numbers_of}
use Rattle.tree_query.proofs.formulas.all_marked.Given as goal

-- the rows so far
abbrev pub invariant-loop-marks : goal.invariant-loop-marks
invariant-loop-marks l = l.lists ≡ map numbers_of (take l.marks-index l.rows)
