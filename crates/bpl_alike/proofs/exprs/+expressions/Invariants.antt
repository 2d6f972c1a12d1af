use Rattle.std.proofs.Common.{◌≡◌, ◌+◌, ◌*◌, map, take}
use Rattle.std.specs.List.{sum_by}
use Rattle.bpl_ast.specs.Alike.{bare_bracket, bare_expr}
use Rattle.bpl_alike.proofs.Weights.{weight, bracket_weight}
use Rattle.bpl_alike.proofs.exprs.+expressions.Given as goal

abbrev pub decreases-exprs : goal.decreases-exprs
decreases-exprs l = 4 * (weight l.a.now + weight l.b.now) + 1

abbrev pub decreases-applications : goal.decreases-applications
decreases-applications l = 4 * (weight l.a.now + weight l.b.now)

abbrev pub decreases-comparisons : goal.decreases-comparisons
decreases-comparisons l = 4 * (weight l.a.now + weight l.b.now)

abbrev pub decreases-connectives : goal.decreases-connectives
decreases-connectives l = 4 * (weight l.a.now + weight l.b.now)

abbrev pub decreases-boxes : goal.decreases-boxes
decreases-boxes l = 4 * (weight l.x.now + weight l.y.now) + 2

abbrev pub decreases-operands : goal.decreases-operands
decreases-operands l = 4 * (sum_by weight l.x.now + sum_by weight l.y.now) + 3

abbrev pub decreases-each : goal.decreases-each
decreases-each l = 4 * (sum_by weight l.a.now + sum_by weight l.b.now) + 2

abbrev pub decreases-posts : goal.decreases-posts
decreases-posts l = 4 * (weight l.x.now + sum_by bracket_weight l.p.now + weight l.y.now + sum_by bracket_weight l.q.now) + 3

abbrev pub decreases-rest : goal.decreases-rest
decreases-rest l = 4 * (weight l.x.now + weight l.y.now + sum_by bracket_weight l.q.now) + 2

abbrev pub decreases-brackets : goal.decreases-brackets
decreases-brackets l = 4 * (sum_by bracket_weight l.a.now + sum_by bracket_weight l.b.now) + 2

abbrev pub decreases-bracket : goal.decreases-bracket
decreases-bracket l = 4 * (bracket_weight l.a.now + bracket_weight l.b.now)

abbrev pub invariant-each-loop-i : goal.invariant-each-loop-i
invariant-each-loop-i l = map bare_expr (take l.i l.a) ≡ map bare_expr (take l.i l.b)

abbrev pub invariant-brackets-loop-i : goal.invariant-brackets-loop-i
invariant-brackets-loop-i l = map bare_bracket (take l.i l.a) ≡ map bare_bracket (take l.i l.b)
