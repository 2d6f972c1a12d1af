-- What the new node's sort is, behind the sorts that are kept.
use Rattle.std.proofs.Common.{rules, length, ◌≡◌, List, Some, sym, ◌∙◌, ap, subst}
use Rattle.hy_val.specs.Exprs.{sort_of_node}
use Rattle.hy_val.specs.Building.{sorts_of, Added}
use Rattle.hy_val.specs.declared.sort.Sort.{Sort}
use Rattle.hy_val.specs.declared.expr.ExprNode.{ExprNode}
use Rattle.hy_val.proofs.Building.{sorts_push, node_added}
use Rattle.hy_val.proofs.builder.ExprBuilder.try_add.Goals as goal

pub invariant_of-self-in-Some : goal.invariant_of-self-in-Some
invariant_of-self-in-Some c =
    let next : Some c.in-Some.sort ≡ sort_of_node c.self.inside.sorts.items c.args.node =
    c.in-Some.ensures {u = tt} ∙ ap (λ (sorts : List Sort). sort_of_node sorts c.args.node) c.as_slice.ensures.value in
    ap sorts_of c.in_ok-push_both-in-Some.ensures.nodes_ok
    ∙ sorts_push c.self.inside.nodes.items c.args.node c.self.inside.sorts.items c.in-Some.sort c.self.invariant (sym next)
    ∙ sym (ap Some c.in_ok-push_both-in-Some.ensures.sorts_ok)

pub returns-in_ok-push_both-in-Some-clause-ok : goal.returns-in_ok-push_both-in-Some-clause-ok
returns-in_ok-push_both-in-Some-clause-ok c =
    let next : Some c.in-Some.sort ≡ sort_of_node c.self.inside.sorts.items c.args.node =
    c.in-Some.ensures {u = tt} ∙ ap (λ (sorts : List Sort). sort_of_node sorts c.args.node) c.as_slice.ensures.value in
    let count : c.len-number.result ≡ length c.self.inside.nodes.items = search rules in
    subst (λ (old : List ExprNode). Added old c.args.node c.push_both.new.nodes.items c.len-number.result) c.self.view_is
    (node_added c.self.inside.nodes.items c.push_both.new.nodes.items c.args.node c.len-number.result c.self.inside.sorts.items c.in-Some.sort
    c.self.invariant next c.in_ok-push_both-in-Some.ensures.nodes_ok count)
