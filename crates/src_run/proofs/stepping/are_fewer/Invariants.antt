use Rattle.std.proofs.Common.{◌≡◌, nat_lt, drop}
use Rattle.src_run.specs.Stepping.{open_callers}
use Rattle.src_run.proofs.stepping.are_fewer.Given as goal

abbrev pub invariant-loop-caller : goal.invariant-loop-caller
invariant-loop-caller l = nat_lt (open_callers l.number (drop l.caller-index l.callers)) l.left ≡ nat_lt (open_callers l.number l.callers) l.most
