use Rattle.std.proofs.Common.{◌≡◌, take}
use Rattle.tree_query.specs.Asked.{caps_of}
use Rattle.tree_query.proofs.questioning.caps_of.Given as goal

-- the nodes so far
abbrev pub invariant-loop-index : goal.invariant-loop-index
invariant-loop-index l = l.table ≡ caps_of l.flat l.entry l.bound (take l.index l.tree)
