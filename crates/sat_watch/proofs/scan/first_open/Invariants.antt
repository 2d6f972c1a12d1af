use Rattle.std.proofs.Common.{take}
use Rattle.sat_watch.specs.Watching.{AreFalse}
use Rattle.sat_watch.proofs.scan.first_open.Given as goal

abbrev pub invariant-loop-lit : goal.invariant-loop-lit
invariant-loop-lit l = AreFalse l.trail (take l.lit-index l.literals)
