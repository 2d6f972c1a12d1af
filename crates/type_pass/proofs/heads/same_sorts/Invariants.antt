use Rattle.std.proofs.Common.{◌≡◌, drop}
use Rattle.type_pass.specs.Passes.{same_sorts}
use Rattle.type_pass.proofs.heads.same_sorts.Given as goal

abbrev pub invariant-loop-sort : goal.invariant-loop-sort
invariant-loop-sort l = same_sorts (drop l.sort-index l.left) l.rest ≡ same_sorts l.left l.right
