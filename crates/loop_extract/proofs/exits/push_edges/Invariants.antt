use Rattle.std.proofs.Common.{◌≡◌, ◌++◌, drop, filter}
use Rattle.extract_def.specs.Exits.{leaves, edges_to}
use Rattle.loop_extract.proofs.exits.push_edges.Given as goal

abbrev pub invariant-loop-k : goal.invariant-loop-k
invariant-loop-k l = (l.initial.exits ++ filter (λ e. leaves l.span e.dest) (edges_to l.block 0 l.targets)) ≡ (l.exits ++ filter (λ e. leaves l.span e.dest) (edges_to l.block l.k (drop l.k l.targets)))
