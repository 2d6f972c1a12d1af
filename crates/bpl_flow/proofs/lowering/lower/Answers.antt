-- What the text becomes is a program.
use Rattle.std.proofs.Common.{sym, ◌∙◌}
use Rattle.bpl_flow.proofs.Programs.{lowered-fits}
use Rattle.bpl_flow.specs.Parted.{program_by}
use Rattle.bpl_flow.proofs.lowering.lower.Goals as goal

pub new-requires : goal.new-requires
new-requires c = lowered-fits c.args.typed.now (program_by c.in_ok-parts.parts) c.requires (sym c.are_counted.ensures ∙ c.if-not-are_counted.false) c.in_ok-parts.ensures
