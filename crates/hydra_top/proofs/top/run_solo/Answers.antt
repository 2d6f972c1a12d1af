use Rattle.hydra_top.specs.Words.{task_of}
use Rattle.hydra_top.proofs.Openings.{opens_reported}
use Rattle.hydra_top.proofs.Told.{may_starve, starved_front}
use Rattle.hydra_top.proofs.top.run_solo.Goals as goal

pub returns-in-Ok-clause-opened : goal.returns-in-Ok-clause-opened
returns-in-Ok-clause-opened g c =
    opens_reported (task_of c.args.words.now) c.in-Ok.answer.outcome c.finished.result.outcome (g.S.Shelf.opened c.args.shelf.now) (g.S.Shelf.opened c.decided.new.shelf) c.finished.ensures.either c.in-Ok.ensures.opened

pub returns-in-Err-clause-right : goal.returns-in-Err-clause-right
returns-in-Err-clause-right g c = λ written.
    may_starve (g.S.Shelf.files c.args.shelf.now) (task_of c.args.words.now) c.finished-in-Err.result.outcome (c.finished-in-Err.ensures.told written).0

pub returns-in-Err-clause-begun : goal.returns-in-Err-clause-begun
returns-in-Err-clause-begun g c = λ is.
    starved_front (g.S.Shelf.faults c.args.shelf.now) (g.S.Shelf.faults c.decided.new.shelf) (g.S.Shelf.files c.args.shelf.now) c.args.words.now (g.K.Sink.held c.args.out.now) (g.K.Sink.held c.finished-in-Err.new.out) (c.finished-in-Err.ensures.begun is)
