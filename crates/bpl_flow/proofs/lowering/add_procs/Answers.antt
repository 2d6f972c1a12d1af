-- The body of a procedure of a typed program fits.
use Rattle.std.proofs.Common.{ap, sym, ◌∙◌}
use Rattle.bpl_flow.proofs.Fitting.{proc-body}
use Rattle.bpl_flow.proofs.lowering.add_procs.Goals as goal

pub add_proc-requires : goal.add_proc-requires
add_proc-requires c =
    proc-body c.args.typed.now c.loop-proc.proc-index c.proc-item.result c.in-Some.body c.requires c.loop-proc-test.true (ap (λ p. p.body) (sym c.proc-item.is) ∙ c.in-Some.is)
