use Rattle.std.proofs.Common.{◌≡◌, map, take, drop, IsTrue}
use Rattle.std.specs.List.{list_all}
use Rattle.hy_val.specs.Exprs.{eval, reads}
use Rattle.src_run.proofs.stepping.args_of.Given as goal

abbrev pub invariant-loop-arg : goal.invariant-loop-arg
invariant-loop-arg l = (l.values ≡ map (eval l.env) (take l.arg-index l.args)) × IsTrue (list_all (reads l.env) (drop l.arg-index l.args))
