use Rattle.std.proofs.Common.{◌≡◌, take}
use Rattle.tree_query.proofs.numbering.PathNumbers.of.Given as goal

-- the paths so far
abbrev pub invariant-loop-path : goal.invariant-loop-path
invariant-loop-path l = l.numbers ≡ take l.path-index l.paths
