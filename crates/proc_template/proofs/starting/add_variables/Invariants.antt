use Rattle.std.proofs.Common.{take}
use Rattle.proc_template.specs.Starting.{Adds}
use Rattle.proc_template.proofs.starting.add_variables.Given as goal

abbrev pub invariant-loop-sort : goal.invariant-loop-sort
invariant-loop-sort l = Adds l.initial.terms.nodes (take l.sort-index l.sorts) l.terms.nodes l.added
