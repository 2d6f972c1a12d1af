use Rattle.std.proofs.Common.{◌≡◌, not, drop}
use Rattle.std.specs.List.{list_all}
use Rattle.hy_val.specs.Values.{at}
use Rattle.hy_val.specs.Stores.{same_value}
use Rattle.src_run.proofs.uniques.differs_from.Given as goal

abbrev pub invariant-loop-other : goal.invariant-loop-other
invariant-loop-other l = list_all (λ m. not (same_value (at l.consts l.number) (at l.consts m))) (drop l.other-index l.others) ≡ list_all (λ m. not (same_value (at l.consts l.number) (at l.consts m))) l.others
