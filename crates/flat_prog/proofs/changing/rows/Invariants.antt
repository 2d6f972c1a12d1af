use Rattle.std.proofs.Common.{◌≡◌, map}
use Rattle.flat_prog.specs.Marking.{across}
use Rattle.flat_prog.specs.Sites.{numbers_from}
use Rattle.flat_prog.proofs.changing.rows.Given as goal

abbrev pub invariant-loop-proc : goal.invariant-loop-proc
invariant-loop-proc l = l.rows ≡ map (across l.columns) (numbers_from 0 l.proc)
