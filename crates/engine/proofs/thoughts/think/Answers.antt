use Rattle.std.proofs.Common.{◌≡◌, ℕ, List, subst}
use Rattle.piece_core.specs.declared.tasks.Task.{Task}
use Rattle.piece_core.specs.Evidence.{Closes}
use Rattle.engine.specs.Engine.{NoUnder}
use Rattle.engine.proofs.thoughts.think.Goals as goal

pub returns-in-Refuted-over-clause-thinks : goal.returns-in-Refuted-over-clause-thinks
returns-in-Refuted-over-clause-thinks c = (
  subst (λ (t : Task). NoUnder t c.args.sight.now.tree c.args.sight.now.piece) c.deref-task.ensures (c.in-Refuted.ensures.answer.1),
  subst (λ (t : Task). Closes t c.args.sight.now.tree c.args.sight.now.piece c.in-Refuted-over.proof) c.deref-task.ensures (c.in-Refuted-over.ensures.answer.0),
)
