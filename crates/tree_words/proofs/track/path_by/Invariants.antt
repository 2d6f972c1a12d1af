use Rattle.std.proofs.Common.{◌≡◌, take}
use Rattle.tree_words.specs.Reading.{path_by}
use Rattle.tree_words.proofs.track.path_by.Given as goal

abbrev pub invariant-loop-edge : goal.invariant-loop-edge
invariant-loop-edge l = l.path.items ≡ path_by (take l.edge-index l.passed)
