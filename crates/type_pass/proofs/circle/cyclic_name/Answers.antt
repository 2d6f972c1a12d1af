use Rattle.std.proofs.Common.{false, get_or, sym, ◌∙◌, ap}
use Rattle.type_pass.specs.declared.fault.TypeKind.TheVariants.{Cyclic}
use Rattle.type_pass.specs.Faults.{earlier, first, told}
use Rattle.type_pass.specs.Graphs.{is_on_circle}
use Rattle.type_pass.specs.Orders.{is_in}
use Rattle.type_pass.proofs.CircleLaws.{ordered-not, cyclic-further, cyclic-done}
use Rattle.type_pass.proofs.circle.cyclic_name.Goals as goal

pub circle_at-requires-clause-ordered : goal.circle_at-requires-clause-ordered
circle_at-requires-clause-ordered c = λ n h.
    ordered-not c.args.graph.now c.in_ok-nodes.nodes.items c.in_ok-nodes.ensures n
    (ap (λ ns. is_in ns n) (sym c.as_slice.ensures.value) ∙ c.in_ok-ordered.ensures n (ap (λ fs. get_or fs n false) (sym c.as_slice-in-loop-node.ensures.value) ∙ h))

pub loop-node-preserved : goal.loop-node-preserved
loop-node-preserved c =
    cyclic-further c.args.graph.now c.args.names.now c.loop-node.node c.index-names-node.result c.loop-node.found c.earlier-found.result _ c.loop-node-test.true
    (c.earlier-found.ensures ∙ ap (earlier c.loop-node.found) (c.in_ok-more.ensures ∙ ap (λ n. first (told (is_on_circle c.args.graph.now c.loop-node.node) n.now.at Cyclic)) c.index-names-node.is)) c.loop-node.invariant

pub returns : goal.returns
returns c = cyclic-done c.args.graph.now c.args.names.now c.loop-node.node c.loop-node.found _ c.loop-node-test.false c.loop-node.invariant
