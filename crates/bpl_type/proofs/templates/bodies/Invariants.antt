use Rattle.std.proofs.Common.{take}
use Rattle.bpl_type.proofs.TemplateLaws.{Filled}
use Rattle.bpl_type.proofs.templates.bodies.Given as goal

abbrev pub invariant-loop-number : goal.invariant-loop-number
invariant-loop-number l = Filled l.ast (take l.number-index l.order) l.bodies
