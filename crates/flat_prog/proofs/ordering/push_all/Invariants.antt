use Rattle.std.proofs.Common.{◌≡◌, ◌++◌, take}
use Rattle.flat_prog.specs.Searching.{entries}
use Rattle.flat_prog.proofs.ordering.push_all.Given as goal

abbrev pub invariant-loop-block : goal.invariant-loop-block
invariant-loop-block l = l.visits ≡ l.initial.visits ++ entries (take l.block-index l.blocks)
