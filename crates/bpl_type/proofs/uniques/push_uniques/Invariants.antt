use Rattle.std.proofs.Common.{◌≡◌, ◌+◌, ◌++◌, replicate}
use Rattle.bpl_type.specs.TypedOf.{places_from}
use Rattle.bpl_type.proofs.uniques.push_uniques.Given as goal

abbrev pub invariant-loop : goal.invariant-loop
invariant-loop l = record {
  list : l.uniques ≡ l.initial.uniques ++ places_from l.first (replicate l.counter l.constants.unique);
  next : l.number ≡ l.first + l.counter;
}
