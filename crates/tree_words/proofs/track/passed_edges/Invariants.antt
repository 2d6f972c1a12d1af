use Rattle.std.proofs.Common.{◌≡◌, take}
use Rattle.tree_words.specs.Reading.{passed_edges}
use Rattle.tree_words.proofs.track.passed_edges.Given as goal

abbrev pub invariant-loop-edge : goal.invariant-loop-edge
invariant-loop-edge l = l.passed.items ≡ passed_edges l.values (take l.edge-index l.edges)
