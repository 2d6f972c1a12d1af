use Rattle.std.proofs.Common.{ℕ, subst, sym}
use Rattle.std.specs.Prelude.{Option}
use Rattle.engine.specs.Engine.{GoesOn}
use Rattle.engine.proofs.Going.{goes_on}
use Rattle.engine.proofs.solo.step.Goals as goal

pub returns-in-Booked-clause-next : goal.returns-in-Booked-clause-next
returns-in-Booked-clause-next c =
    subst (λ (o : Option ℕ). GoesOn c.turn.new.book c.args.worker.now.number o) (sym c.next_leaf.ensures)
    (goes_on c.args.book.now c.turn.new.book c.args.worker.now.number c.args.node c.in-Booked.kind c.in-Booked.ticket c.in-Booked.ensures.turns)
