use Rattle.std.proofs.Common.{◌≡◌, reverse, take}
use Rattle.call_tree.specs.Tallies.{tally_of}
use Rattle.call_tree.proofs.caps.count_way.Given as goal

abbrev pub invariant-loop-other : goal.invariant-loop-other
invariant-loop-other l = l.tally ≡ tally_of l.proc (reverse (take l.other-index l.way))
