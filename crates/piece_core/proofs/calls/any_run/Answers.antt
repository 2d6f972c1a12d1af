use Rattle.std.proofs.Common.{◌≡◌, List, ◌++◌, ◌∷◌, [], ◌∙◌, subst}
use Rattle.std.specs.Prelude.{All}
use Rattle.std.specs.Arc.{arc_value}
use Rattle.piece_core.specs.declared.calls.BookCall.{BookCall}
use Rattle.piece_core.specs.declared.tasks.Task.{Task}
use Rattle.piece_core.specs.Calls.{Called, MayCall, first_stand, stand_of}
use Rattle.piece_core.proofs.Runs.{calls_more, all_left}
use Rattle.piece_core.proofs.calls.any_run.Goals as goal

pub loop-next-preserved : goal.loop-next-preserved
loop-next-preserved c = (
  c.in_ok-call.ensures.task ∙ c.loop-next.invariant.0,
  calls_more (arc_value c.args.task) first_stand c.loop-next.calls.items c.pop.new.self.items c.in-Some.next c.args.calls.items (stand_of c.loop-next.book) (stand_of c.call.new.book) c.in-Some.ensures.items c.loop-next.invariant.1
      (subst (λ (t : Task). Called t (stand_of c.loop-next.book) c.in-Some.next (stand_of c.call.new.book)) c.loop-next.invariant.0 c.in_ok-call.ensures.stands),
  all_left MayCall c.pop.new.self.items (c.in-Some.next ∷ []) (subst (All MayCall) c.in-Some.ensures.items c.loop-next.invariant.2),
)
