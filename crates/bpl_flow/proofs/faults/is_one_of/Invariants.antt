use Rattle.std.proofs.Common.{◌≡◌, nat_eq, drop}
use Rattle.std.specs.List.{list_any}
use Rattle.bpl_flow.proofs.faults.is_one_of.Given as goal

abbrev pub invariant-loop-other : goal.invariant-loop-other
invariant-loop-other l = list_any (nat_eq l.statement) (drop l.other-index l.statements) ≡ list_any (nat_eq l.statement) l.statements
