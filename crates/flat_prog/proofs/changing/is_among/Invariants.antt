use Rattle.std.proofs.Common.{◌≡◌, drop}
use Rattle.std.specs.List.{list_any}
use Rattle.flat_prog.specs.Marking.{is_global}
use Rattle.flat_prog.proofs.changing.is_among.Given as goal

abbrev pub invariant-loop-x : goal.invariant-loop-x
invariant-loop-x l = list_any (is_global l.global) l.xs ≡ list_any (is_global l.global) (drop l.x-index l.xs)
