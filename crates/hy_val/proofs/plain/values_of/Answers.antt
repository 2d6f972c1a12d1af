-- One node further.
use Rattle.std.proofs.Common.{◌≡◌, ◌+◌, drop, sym, ◌∙◌, ap, subst, List}
use Rattle.std.specs.Prelude.{IsTrue}
use Rattle.hy_val.specs.Values.{has_sort}
use Rattle.hy_val.specs.Exprs.{node_by, read}
use Rattle.hy_val.specs.declared.sort.Sort.{Sort}
use Rattle.hy_val.specs.declared.value.Value.{Value}
use Rattle.hy_val.proofs.ResultSorts.{kept}
use Rattle.hy_val.proofs.Evaluating.{Evaluates, at_node, next_node}
use Rattle.hy_val.proofs.plain.values_of.Goals as goal

pub loop-node-preserved : goal.loop-node-preserved
loop-node-preserved c =
    let v_is : c.in_ok-value.value ≡ node_by (read c.args.env.now) c.loop-node.values.items c.node-item.result =
    c.in_ok-value.ensures ∙ ap (λ (vs : List Value). node_by (read c.args.env.now) vs c.node-item.result) c.as_slice.ensures.value in
    let own : kept c.in_ok-value.value = subst (λ (s : Sort). IsTrue (has_sort c.in_ok-value.value s)) c.sort-sort.ensures.value c.sort-sort.ensures.kept in
    subst (λ (vs : List Value). Evaluates c.args.env.now c.args.nodes.now vs (drop (c.loop-node.node-index + 1) c.args.nodes.now)) (sym c.in_ok-push.ensures.items)
    (next_node c.args.env.now c.args.nodes.now c.loop-node.values.items c.node-item.result (drop (c.loop-node.node-index + 1) c.args.nodes.now) c.in_ok-value.value
    (at_node c.args.env.now c.args.nodes.now c.loop-node.values.items c.loop-node.node-index c.node-item.result c.node-item.result c.loop-node-test.true c.node-item.is c.loop-node.invariant)
    v_is own)
