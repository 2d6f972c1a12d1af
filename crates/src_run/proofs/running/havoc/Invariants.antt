use Rattle.std.proofs.Common.{◌≡◌, map, take, drop, length, ◌+◌}
use Rattle.src_run.specs.Running.{all_written, bool_value}
use Rattle.src_run.proofs.running.havoc.Given as goal

abbrev pub invariant-loop-index : goal.invariant-loop-index
invariant-loop-index l =
    all_written l.env (drop l.index l.vars) (map bool_value (take (length (drop l.index l.vars)) (drop (l.next + l.index) l.given)))
    ≡ all_written l.initial.env l.vars (map bool_value (take (length l.vars) (drop l.next l.given)))
