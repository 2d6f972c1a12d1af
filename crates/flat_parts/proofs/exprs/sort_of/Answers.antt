use Rattle.std.proofs.Common.{List, sym, subst, take}
use Rattle.std.specs.Prelude.{IsSome, IsTrue}
use Rattle.hy_val.specs.Building.{sort_next}
use Rattle.hy_val.specs.Exprs.{is_expr}
use Rattle.hy_val.specs.declared.expr.ExprNode.{ExprNode}
use Rattle.flat_parts.proofs.Nodes.{next_fits}
use Rattle.flat_parts.proofs.exprs.sort_of.Goals as goal

pub add-requires : goal.add-requires
add-requires c =
    let ok : IsTrue (is_expr c.nodes-nodes.result.now) = subst (λ (ns : List ExprNode). IsTrue (is_expr ns)) (sym c.nodes-nodes.ensures.value) c.nodes-nodes.ensures.kept in
    subst (λ (ns : List ExprNode). IsSome (sort_next ns c.node-item.result)) (sym c.loop-node.invariant)
    (subst (λ (n : ExprNode). IsSome (sort_next (take c.loop-node.node-index c.nodes-nodes.result.now) n)) (sym c.node-item.is)
    (next_fits c.nodes-nodes.result.now c.node-item.result c.loop-node.node-index ok c.loop-node-test.true))
