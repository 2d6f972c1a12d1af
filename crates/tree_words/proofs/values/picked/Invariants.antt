use Rattle.std.proofs.Common.{◌≡◌, take, map}
use Rattle.hy_val.specs.Values.{at}
use Rattle.tree_words.proofs.values.picked.Given as goal

abbrev pub invariant-loop-number : goal.invariant-loop-number
invariant-loop-number l = l.list.items ≡ map (at l.values) (take l.number-index l.numbers)
