use Rattle.std.proofs.Common.{sym, ◌∙◌}
use Rattle.bpl_type.proofs.CheckLaws.{faultless, sizes-tell}
use Rattle.bpl_type.proofs.checking.fault_with_sizes.Goals as goal

pub returns : goal.returns
returns c = sizes-tell c.args.limit c.args.ast.now c.sizes_fault.result (sym c.in_default.is ∙ c.in_ok-fault.ensures) c.sizes_fault.ensures

pub sizes_fault-requires-clause-heads : goal.sizes_fault-requires-clause-heads
sizes_fault-requires-clause-heads c = (faultless c.args.limit c.args.ast.now (sym c.in_default.is ∙ c.in_ok-fault.ensures)).0

pub sizes_fault-requires-clause-commands : goal.sizes_fault-requires-clause-commands
sizes_fault-requires-clause-commands c = (faultless c.args.limit c.args.ast.now (sym c.in_default.is ∙ c.in_ok-fault.ensures)).1

pub sizes_fault-requires-clause-circles : goal.sizes_fault-requires-clause-circles
sizes_fault-requires-clause-circles c = (faultless c.args.limit c.args.ast.now (sym c.in_default.is ∙ c.in_ok-fault.ensures)).2
