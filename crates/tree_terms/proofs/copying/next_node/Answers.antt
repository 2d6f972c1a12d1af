use Rattle.std.proofs.Common.{arith, sym, ◌∙◌}
use Rattle.tree_terms.proofs.Going.{down_goes}
use Rattle.tree_terms.proofs.copying.next_node.Goals as goal

pub down-smaller : goal.down-smaller
down-smaller c =
    let d = down_goes c.args.q.now c.requires.linked.0 c.args.places.now c.down.at c.in-Some.callee c.requires.linked.1 c.down.invariant (sym c.waits.ensures ∙ c.in-Some.is) in
    omega (arith, d.0, d.1)

pub down-preserved : goal.down-preserved
down-preserved c =
    (down_goes c.args.q.now c.requires.linked.0 c.args.places.now c.down.at c.in-Some.callee c.requires.linked.1 c.down.invariant (sym c.waits.ensures ∙ c.in-Some.is)).2
