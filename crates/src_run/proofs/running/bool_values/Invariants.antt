use Rattle.std.proofs.Common.{◌≡◌, map, take}
use Rattle.src_run.specs.Running.{bool_value}
use Rattle.src_run.proofs.running.bool_values.Given as goal

abbrev pub invariant-loop-value : goal.invariant-loop-value
invariant-loop-value l = l.values ≡ map bool_value (take l.value-index l.given)
