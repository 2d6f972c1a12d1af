use Rattle.std.proofs.Common.{subst, sym, refl}
use Rattle.piece_core.specs.Refusals.{IsAsSeen}
use Rattle.engine.specs.declared.turns.Turned.{Turned}
use Rattle.engine.specs.Engine.{Turns}
use Rattle.engine.proofs.Turning.{settled_turn, thinks_of, sight_refused}
use Rattle.engine.proofs.turns.turn.Goals as goal

pub returns-clause-turns : goal.returns-clause-turns
returns-clause-turns c =
    let o = c.in-Ok.ensures.ok in
    let seen : IsAsSeen c.args.book.now.task o.0 c.in-Ok.sight = record { task_is = sym o.3; piece_is = sym o.5; tree_is = sym o.6; inlined_is = sym o.7 } in
    settled_turn c.args.book.now c.settle.new.book c.args.worker.now.number c.args.node c.in-Ok.sight c.in-Ok-think.thought c.settle.result o.0 o.1 o.2 o.4 seen
    (thinks_of c.args.book.now.task o.0 c.in-Ok.sight c.in-Ok-think.thought seen c.in-Ok-think.ensures.thinks) c.settle.ensures

pub returns-in-Err-clause-turns : goal.returns-in-Err-clause-turns
returns-in-Err-clause-turns c =
    subst (λ (t : Turned). Turns c.args.book.now c.args.book.now c.args.worker.now.number c.args.node t) (sym c.refused.ensures)
    (sight_refused c.args.book.now c.args.book.now c.args.worker.now.number c.args.node c.in-Err.refusal refl c.in-Err.ensures.err)
