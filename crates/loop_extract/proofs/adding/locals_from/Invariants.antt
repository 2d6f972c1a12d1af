use Rattle.std.proofs.Common.{◌≡◌, ◌+◌, ◌-◌, ◌++◌}
use Rattle.extract_def.specs.Renaming.{locals_from}
use Rattle.loop_extract.proofs.adding.locals_from.Given as goal

abbrev pub invariant-loop-k : goal.invariant-loop-k
invariant-loop-k l = locals_from l.first l.count ≡ l.locals ++ locals_from (l.first + l.k) (l.count - l.k)
