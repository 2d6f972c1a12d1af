use Rattle.bpl_type.proofs.ProgramMade.{procedure-faultless}
use Rattle.bpl_type.proofs.procs.procs_with.Goals as goal

pub typed_proc-requires-clause-faultless : goal.typed_proc-requires-clause-faultless
typed_proc-requires-clause-faultless c =
    procedure-faultless c.args.program.now c.as_slice-decl-items.result.now c.loop-decl.decl-index c.decl-item.result c.in-Procedure.procedure c.as_slice-decl-items.ensures c.loop-decl-test.true c.decl-item.is c.in-Procedure.is
