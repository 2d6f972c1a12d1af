use Rattle.hy_val.specs.declared.expr.Var.{Var}
use Rattle.flat_prog.proofs.Matching.{Alike}
use Rattle.flat_prog.proofs.alike.same_vars.Given as goal

abbrev pub invariant-loop-i : goal.invariant-loop-i
invariant-loop-i l = Alike Var l.left l.right l.i
