use Rattle.hydra_top.proofs.Told.{traced_done}
use Rattle.hydra_top.proofs.retracing.traced.Goals as goal

pub returns-in-Ok-clause-answer : goal.returns-in-Ok-clause-answer
returns-in-Ok-clause-answer g c =
    traced_done (g.S.Shelf.faults c.args.shelf.now) (g.S.Shelf.faults c.read_file.new.shelf) (g.S.Shelf.files c.args.shelf.now) c.args.trace.now (g.S.Shelf.left c.read_file.new.shelf) c.in-Ok.source c.args.prog.now c.args.entry c.args.bound c.replayed.result
    c.in-Ok.ensures.cause c.in-Ok.ensures.file c.replayed.ensures.answer
