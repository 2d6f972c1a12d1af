use Rattle.std.proofs.Common.{◌≡◌, map, take}
use Rattle.hy_val.specs.Scope.{sort_of_target}
use Rattle.src_prog.specs.Shape.{scope_of}
use Rattle.src_run.specs.Machine.{AVariable}
use Rattle.src_run.specs.State.{want_of}
use Rattle.src_run.proofs.stepping.variables_asked.Given as goal

abbrev pub invariant-loop-var : goal.invariant-loop-var
invariant-loop-var l = map want_of l.wants ≡ map (λ x. AVariable x (sort_of_target (scope_of l.prog l.proc) x)) (take l.var-index l.vars)
