use Rattle.std.proofs.Common.{take}
use Rattle.sat_watch.specs.Watching.{AreFalseBut}
use Rattle.sat_watch.proofs.scan.other_open.Given as goal

abbrev pub invariant-loop-lit : goal.invariant-loop-lit
invariant-loop-lit l = AreFalseBut l.trail (take l.lit-index l.literals) l.but
