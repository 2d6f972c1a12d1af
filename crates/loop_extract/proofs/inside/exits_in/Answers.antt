use Rattle.std.proofs.Common.{ap, ◌∙◌}
use Rattle.src_prog.specs.declared.proc.SrcLoop.{SrcLoop}
use Rattle.loop_extract.specs.Orders.{are_ordered}
use Rattle.loop_extract.proofs.Ordered.{exits_ordered}
use Rattle.loop_extract.proofs.inside.exits_in.Goals as goal

pub new-requires-in-In : goal.new-requires-in-In
new-requires-in-In c = ap are_ordered c.in_ok-edges-in-In.ensures ∙ exits_ordered c.args.proc.now (record { head = c.in-In.head; exit = c.in-In.exit })
