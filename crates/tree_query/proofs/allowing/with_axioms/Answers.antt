-- One axiom more that holds.
use Rattle.std.proofs.Common.{length, refl}
use Rattle.std.proofs.lemmas.Option.{slice_get_read}
use Rattle.tree_query.proofs.Distinct.{are_after, true_next}
use Rattle.tree_query.proofs.allowing.with_axioms.Goals as goal

pub with_axiom-requires-clause-consts : goal.with_axiom-requires-clause-consts
with_axiom-requires-clause-consts c =
    are_after c.args.terms.now.nodes c.loop-claim.terms.nodes c.args.consts.now c.args.sorts.now _ _ c.loop-claim.node c.requires.consts c.loop-claim.invariant

pub loop-claim-preserved : goal.loop-claim-preserved
loop-claim-preserved c =
    true_next c.args.terms.now.nodes c.loop-claim.terms.nodes c.with_axiom.new.terms.nodes c.args.consts.now c.args.sorts.now c.args.axioms.now c.loop-claim.claim-index c.claim-item.result c.loop-claim.node c.in_ok-node.node _
    c.requires.consts (slice_get_read c.args.axioms.now (length c.args.axioms.now) c.loop-claim.claim-index c.claim-item.result refl c.loop-claim-test.true c.claim-item.is) c.loop-claim.invariant c.in_ok-node.ensures
