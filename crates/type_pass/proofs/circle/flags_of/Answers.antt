use Rattle.std.proofs.Common.{false, get_or, sym, ◌∙◌, ap}
use Rattle.type_pass.proofs.CircleLaws.{flagged-further}
use Rattle.type_pass.proofs.circle.flags_of.Goals as goal

pub loop-node-preserved : goal.loop-node-preserved
loop-node-preserved c = λ n h.
    flagged-further c.loop-node.flags.items c.args.nodes.now c.loop-node.node-index c.loop-node-test.true c.loop-node.invariant n (ap (λ fs. get_or fs n false) (sym c.put_flag.ensures) ∙ h)
