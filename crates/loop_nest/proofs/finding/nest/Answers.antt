use Rattle.loop_nest.proofs.Fitting.{proc-at, proc-of, closed-of}
use Rattle.loop_nest.proofs.NestLaws.{nest-at}
use Rattle.std.specs.List.{slice_get}
use Rattle.loop_nest.proofs.finding.nest.Goals as goal

pub nest_of-requires-clause-closed : goal.nest_of-requires-clause-closed
nest_of-requires-clause-closed c =
    closed-of c.index-procs-proc.result
    (proc-of c.args.prog.now c.args.proc c.index-procs-proc.result c.consts-consts.ensures.kept (proc-at c.args.prog.now c.args.proc c.procs.result.now c.index-procs-proc.result c.procs.ensures c.requires c.index-procs-proc.is))

pub nest_of-requires-clause-some : goal.nest_of-requires-clause-some
nest_of-requires-clause-some c =
    (proc-of c.args.prog.now c.args.proc c.index-procs-proc.result c.consts-consts.ensures.kept (proc-at c.args.prog.now c.args.proc c.procs.result.now c.index-procs-proc.result c.procs.ensures c.requires c.index-procs-proc.is)).some

pub nest_of-requires-clause-numbered : goal.nest_of-requires-clause-numbered
nest_of-requires-clause-numbered c =
    (proc-of c.args.prog.now c.args.proc c.index-procs-proc.result c.consts-consts.ensures.kept (proc-at c.args.prog.now c.args.proc c.procs.result.now c.index-procs-proc.result c.procs.ensures c.requires c.index-procs-proc.is)).numbered

pub nest_of-requires-clause-loops : goal.nest_of-requires-clause-loops
nest_of-requires-clause-loops c =
    (proc-of c.args.prog.now c.args.proc c.index-procs-proc.result c.consts-consts.ensures.kept (proc-at c.args.prog.now c.args.proc c.procs.result.now c.index-procs-proc.result c.procs.ensures c.requires c.index-procs-proc.is)).loops

pub returns : goal.returns
returns c =
    nest-at (slice_get c.args.prog.now.procs c.args.proc) c.index-procs-proc.result c.nest_of.result
    (proc-at c.args.prog.now c.args.proc c.procs.result.now c.index-procs-proc.result c.procs.ensures c.requires c.index-procs-proc.is) c.nest_of.ensures
