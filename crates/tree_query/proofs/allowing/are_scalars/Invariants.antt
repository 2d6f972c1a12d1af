use Rattle.std.proofs.Common.{◌≡◌, drop}
use Rattle.tree_query.specs.Allowing.{are_scalars}
use Rattle.tree_query.proofs.allowing.are_scalars.Given as goal

-- those so far are no maps
abbrev pub invariant-loop-number : goal.invariant-loop-number
invariant-loop-number l = are_scalars l.sorts (drop l.number-index l.numbers) ≡ are_scalars l.sorts l.numbers
