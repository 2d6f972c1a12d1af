use Rattle.std.proofs.Common.{◌≡◌, take}
use Rattle.flat_prog.specs.Marking.{across}
use Rattle.flat_prog.proofs.changing.across.Given as goal

abbrev pub invariant-loop-column : goal.invariant-loop-column
invariant-loop-column l = l.marks ≡ across (take l.column-index l.columns) l.proc
