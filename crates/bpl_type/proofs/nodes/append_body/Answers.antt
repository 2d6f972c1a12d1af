use Rattle.std.proofs.Common.{◌∙◌, [], fold, ap, take_all}
use Rattle.bpl_type.proofs.MakingLaws.{place_step, body-placed}
use Rattle.bpl_type.proofs.nodes.append_body.Goals as goal

pub returns : goal.returns
returns c =
    body-placed c.args.arguments.now c.args.out.now c.args.body.now c.loop-node.places c.loop-node.out c.nodes-nodes.ensures.kept
    (c.loop-node.invariant
    ∙ ap (fold (place_step c.args.arguments.now) ([], c.args.out.now)) (take_all c.loop-node.node-index c.nodes-nodes.result.now c.loop-node-test.false ∙ c.nodes-nodes.ensures.value))
