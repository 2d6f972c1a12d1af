use Rattle.std.proofs.Common.{◌≡◌, ◌++◌, replicate}
use Rattle.type_pass.proofs.tabled.push_sorts.Given as goal

abbrev pub invariant-loop : goal.invariant-loop
invariant-loop l = l.sorts ≡ l.initial.sorts ++ replicate l.counter l.sort
