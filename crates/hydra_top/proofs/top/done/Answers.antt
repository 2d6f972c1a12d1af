use Rattle.hydra_top.specs.Words.{solo, show}
use Rattle.hydra_top.proofs.Told.{tells_pure}
use Rattle.hydra_top.proofs.top.done.Goals as goal

pub returns-in-Solo-clause-answer : goal.returns-in-Solo-clause-answer
returns-in-Solo-clause-answer g c = λ bytes is.
    rw c.in-Solo.is (tells_pure (g.S.Shelf.faults c.args.shelf.now) (g.S.Shelf.files c.args.shelf.now) (solo c.in-Solo.entry.now c.in-Solo.bound) bytes c.solved.result (c.solved.ensures.answer bytes is (g.S.Shelf.files c.args.shelf.now)))

pub returns-in-Show-clause-answer : goal.returns-in-Show-clause-answer
returns-in-Show-clause-answer g c = λ bytes is.
    rw c.in-Show.is (tells_pure (g.S.Shelf.faults c.args.shelf.now) (g.S.Shelf.files c.args.shelf.now) show bytes c.shown.result (c.shown.ensures.answer bytes is (g.S.Shelf.files c.args.shelf.now)))
