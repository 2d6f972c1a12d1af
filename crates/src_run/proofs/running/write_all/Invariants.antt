use Rattle.std.proofs.Common.{◌≡◌, map, drop}
use Rattle.src_run.specs.Running.{all_written}
use Rattle.src_run.proofs.running.write_all.Given as goal

abbrev pub invariant-loop-index : goal.invariant-loop-index
invariant-loop-index l = all_written l.env (map (λ p. p.0) (drop l.index l.pairs)) (drop l.index l.values) ≡ all_written l.initial.env (map (λ p. p.0) l.pairs) l.values
