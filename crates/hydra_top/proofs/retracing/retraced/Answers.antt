use Rattle.hydra_top.proofs.Openings.{opens_second}
use Rattle.hydra_top.proofs.Told.{replay_done, replay_refused}
use Rattle.hydra_top.proofs.retracing.retraced.Goals as goal

pub returns-in-Ok-clause-answer : goal.returns-in-Ok-clause-answer
returns-in-Ok-clause-answer g c = λ bytes is.
    replay_done (g.S.Shelf.faults c.args.shelf.now) (g.S.Shelf.faults c.traced.new.shelf) (g.S.Shelf.files c.args.shelf.now) c.args.name.now c.args.trace.now bytes c.args.bound c.in-Ok.found c.traced.result (c.in-Ok.ensures.entry bytes is) c.traced.ensures.answer

pub returns-in-Ok-clause-opened : goal.returns-in-Ok-clause-opened
returns-in-Ok-clause-opened g c = λ before file is.
    opens_second c.traced.result file c.args.name.now c.args.trace.now c.args.bound before (g.S.Shelf.opened c.args.shelf.now) (g.S.Shelf.opened c.traced.new.shelf) is c.traced.ensures.opened

pub returns-in-Err-Fault-clause-answer : goal.returns-in-Err-Fault-clause-answer
returns-in-Err-Fault-clause-answer g c = λ bytes is.
    let told = rw c.in-Err-Fault.field-0-is at c.in-Err-Fault.ensures.entry in
    replay_refused (g.S.Shelf.faults c.args.shelf.now) (g.S.Shelf.files c.args.shelf.now) c.args.name.now c.args.trace.now bytes c.args.bound c.in-Err-Fault.refusal c.refused.result (told bytes is) c.refused.ensures
