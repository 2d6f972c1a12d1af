-- One constant more that differs.
use Rattle.std.proofs.Common.{get_or}
use Rattle.std.proofs.lemmas.Option.{slice_get-get_or}
use Rattle.tree_query.proofs.Distinct.{are_after, differs_next}
use Rattle.tree_query.proofs.allowing.with_differences.Goals as goal

pub with_difference-requires-clause-consts : goal.with_difference-requires-clause-consts
with_difference-requires-clause-consts c =
    are_after c.args.terms.now.nodes c.loop-other.terms.nodes c.args.consts.now c.args.sorts.now _ _ c.loop-other.node c.requires.consts c.loop-other.invariant

pub loop-other-preserved : goal.loop-other-preserved
loop-other-preserved c =
    differs_next c.args.terms.now.nodes c.loop-other.terms.nodes c.with_difference.new.terms.nodes c.args.consts.now c.args.sorts.now c.args.one c.args.others.now c.loop-other.other-index
    (get_or c.args.others.now c.loop-other.other-index 0) c.loop-other.node c.in_ok-node.node _ c.requires.consts (slice_get-get_or c.args.others.now c.loop-other.other-index 0 c.loop-other-test.true) c.loop-other.invariant
    c.in_ok-node.ensures
