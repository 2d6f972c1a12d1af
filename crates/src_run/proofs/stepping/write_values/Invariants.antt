use Rattle.std.proofs.Common.{◌≡◌, drop}
use Rattle.src_run.specs.Running.{all_written}
use Rattle.src_run.proofs.stepping.write_values.Given as goal

abbrev pub invariant-loop-index : goal.invariant-loop-index
invariant-loop-index l = all_written l.env (drop l.index l.vars) (drop l.index l.values) ≡ all_written l.initial.env l.vars l.values
