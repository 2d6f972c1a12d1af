use Rattle.std.proofs.Common.{◌≡◌, drop, List}
use Rattle.std.specs.List.{list_any}
use Rattle.hy_val.specs.declared.expr.ExprNode.{ExprNode}
use Rattle.hy_val.specs.declared.expr.Var.{Var}
use Rattle.flat_prog.specs.Marking.{is_global}
use Rattle.flat_prog.proofs.changing.is_assigned.Given as goal

abbrev pub invariant-loop-pair : goal.invariant-loop-pair
invariant-loop-pair l = list_any (λ (p : Var × List ExprNode). is_global l.global p.0) l.pairs ≡ list_any (λ (p : Var × List ExprNode). is_global l.global p.0) (drop l.pair-index l.pairs)
