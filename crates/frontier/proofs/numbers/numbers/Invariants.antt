use Rattle.std.proofs.Common.{◌≡◌, ◌+◌}
use Rattle.flat_prog.specs.Sites.{numbers_from}
use Rattle.frontier.proofs.numbers.numbers.Given as goal

abbrev pub invariant-loop : goal.invariant-loop
invariant-loop l = (l.found.items ≡ numbers_from l.first l.counter) × (l.next ≡ l.first + l.counter)
