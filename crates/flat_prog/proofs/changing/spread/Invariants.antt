use Rattle.flat_prog.specs.Marking.{unmarked}
use Rattle.flat_prog.proofs.Marks.{Spreading}
use Rattle.flat_prog.proofs.changing.spread.Given as goal

abbrev pub invariant-loop : goal.invariant-loop
invariant-loop l = Spreading l.callees l.initial.marks l.marks

abbrev pub decreases-loop : goal.decreases-loop
decreases-loop l = unmarked l.marks
