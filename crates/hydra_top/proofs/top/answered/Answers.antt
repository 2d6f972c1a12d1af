use Rattle.hydra_top.specs.Asked.{asked}
use Rattle.hydra_top.proofs.Openings.{opens_unread}
use Rattle.hydra_top.proofs.Told.{told_done}
use Rattle.hydra_top.proofs.top.answered.Goals as goal

pub returns-in-Ok-clause-answer : goal.returns-in-Ok-clause-answer
returns-in-Ok-clause-answer g c =
    told_done (g.S.Shelf.faults c.args.shelf.now) (g.S.Shelf.faults c.read_file.new.shelf) (g.S.Shelf.faults c.done.new.shelf) (g.S.Shelf.files c.args.shelf.now) (g.S.Shelf.files c.read_file.new.shelf) (asked c.args.task.now) (g.S.Shelf.left c.read_file.new.shelf) c.in-Ok.source c.done.result
    c.in-Ok.ensures.cause c.in-Ok.ensures.files c.in-Ok.ensures.file c.done.ensures.answer

pub returns-in-Err-Failed-clause-opened : goal.returns-in-Err-Failed-clause-opened
returns-in-Err-Failed-clause-opened g c =
    opens_unread c.unread.result (asked c.args.task.now) (g.S.Shelf.opened c.args.shelf.now) (g.S.Shelf.opened c.read_file.new.shelf) c.unread.ensures c.in-Err-Failed.ensures.opened
