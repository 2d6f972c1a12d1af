use Rattle.std.proofs.Common.{◌≡◌, ◌+◌, drop}
use Rattle.piece_core.specs.Book.{settled_of}
use Rattle.piece_core.proofs.writes.next_live.Given as goal

abbrev pub invariant-loop-node : goal.invariant-loop-node
invariant-loop-node l = l.from + settled_of (drop l.from l.nodes) ≡ l.node + settled_of (drop l.node l.nodes)
