use Rattle.std.proofs.Common.{◌≡◌, map, take, drop, IsTrue}
use Rattle.std.specs.List.{list_all}
use Rattle.hy_val.specs.Exprs.{eval, reads}
use Rattle.src_run.proofs.running.values_of.Given as goal

abbrev pub invariant-loop-expr : goal.invariant-loop-expr
invariant-loop-expr l = (l.values ≡ map (λ p. eval l.env p.1) (take l.expr-index l.pairs)) × IsTrue (list_all (λ p. reads l.env p.1) (drop l.expr-index l.pairs))
