-- One mark more.
use Rattle.tree_query.proofs.Marks.{mark_next}
use Rattle.tree_query.proofs.formulas.marked.Goals as goal

pub loop-number-preserved : goal.loop-number-preserved
loop-number-preserved c =
    mark_next c.args.marks.now c.loop-number.number c.loop-number.numbers c.push_marked.new.numbers c.mark_at.result c.loop-number-test.true c.mark_at.ensures c.loop-number.invariant c.in_ok-push_marked.ensures.on
    c.in_ok-push_marked.ensures.off
