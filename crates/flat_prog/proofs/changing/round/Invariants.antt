use Rattle.flat_prog.proofs.Marks.{Rounding}
use Rattle.flat_prog.proofs.changing.round.Given as goal

abbrev pub invariant-loop-proc : goal.invariant-loop-proc
invariant-loop-proc l = Rounding l.callees l.initial.marks l.proc l.marks l.is_new
