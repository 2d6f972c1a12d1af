use Rattle.std.proofs.Common.{◌≡◌, ◌+◌, ◌++◌, drop}
use Rattle.loop_extract.specs.Plans.{inners_from}
use Rattle.loop_extract.proofs.inside.inners_of.Given as goal

abbrev pub invariant-loop-k : goal.invariant-loop-k
invariant-loop-k l = inners_from l.proc l.scope l.base l.first l.among ≡ l.inners.inside ++ inners_from l.proc l.scope (l.base + l.k) l.inners.next (drop l.k l.among)
