use Rattle.std.proofs.Common.{◌≡◌, ◌++◌, ◌+◌}
use Rattle.flat_prog.specs.Sites.{numbers_from}
use Rattle.tree_words.proofs.sites.push_numbers.Given as goal

abbrev pub invariant-loop : goal.invariant-loop
invariant-loop l = (l.sites ≡ l.fn.sites ++ numbers_from l.first l.counter) × (l.next ≡ l.first + l.counter)
