use Rattle.std.proofs.Common.{sym}
use Rattle.src_run.proofs.Heads.{nested_in}
use Rattle.src_run.proofs.edges.jump.Goals as goal

pub arrive-requires : goal.arrive-requires
arrive-requires c = rw c.as_slice.ensures (nested_in c.args.prog.now c.args.state.now.place.proc c.in-Some.proc.now c.consts-consts.ensures.kept (sym (rw c.procs.ensures at (c.in-Some.ensures {u = tt}))))
