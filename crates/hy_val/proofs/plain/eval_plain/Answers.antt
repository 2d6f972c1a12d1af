-- The last value is the whole's.
use Rattle.std.proofs.Common.{sym, ◌∙◌, ap, List, []}
use Rattle.hy_val.specs.Exprs.{values_by, read}
use Rattle.hy_val.specs.declared.expr.ExprNode.{ExprNode}
use Rattle.hy_val.proofs.Evaluating.{last_is}
use Rattle.hy_val.proofs.plain.eval_plain.Goals as goal

pub returns-in-Some : goal.returns-in-Some
returns-in-Some c =
    last_is c.args.env.now c.args.e.now c.pop.new.self.items c.in-Some.value
    (ap (λ (ns : List ExprNode). values_by (read c.args.env.now) [] ns) (sym c.nodes.ensures.value) ∙ sym c.in_ok-values.ensures ∙ c.in-Some.ensures.items)
