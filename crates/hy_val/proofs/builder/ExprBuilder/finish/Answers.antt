-- The front of a list whose sorts fit is an expression.
use Rattle.std.proofs.Common.{◌≡◌, suc, ◌+◌, ◌<◌, arith, ◌∙◌, ap, List, length}
use Rattle.hy_val.specs.Building.{sort_at, whole_sort}
use Rattle.hy_val.specs.declared.expr.ExprNode.{ExprNode}
use Rattle.hy_val.proofs.Building.{front_is_expr, front_whole_sort}
use Rattle.hy_val.proofs.builder.ExprBuilder.finish.Goals as goal

pub new-requires : goal.new-requires
new-requires c =
    let next : c.args.root + 1 ≡ suc c.args.root = omega arith in
    let within : c.args.root < length c.self.inside.nodes.items = rw c.self.view_is c.requires in
    rw (c.from_vec.ensures, c.truncate.ensures.items)
    (front_is_expr c.self.inside.nodes.items c.self.inside.sorts.items c.args.root (c.args.root + 1) c.self.invariant within next)

pub returns-clause-sort : goal.returns-clause-sort
returns-clause-sort c =
    let next : c.args.root + 1 ≡ suc c.args.root = omega arith in
    let within : c.args.root < length c.self.inside.nodes.items = rw c.self.view_is c.requires in
    ap whole_sort (c.new.ensures ∙ c.from_vec.ensures ∙ c.truncate.ensures.items)
    ∙ front_whole_sort c.self.inside.nodes.items c.self.inside.sorts.items c.args.root (c.args.root + 1) c.self.invariant within next
    ∙ ap (λ (nodes : List ExprNode). sort_at nodes c.args.root) c.self.view_is
