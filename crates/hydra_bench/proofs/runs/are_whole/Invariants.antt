-- What is left to look at says whether all is so.
use Rattle.std.proofs.Common.{◌≡◌, drop}
use Rattle.flat_prog.specs.Nodes as spec
use Rattle.hydra_bench.proofs.runs.are_whole.Given as goal

abbrev pub invariant-loop-node : goal.invariant-loop-node
invariant-loop-node l = spec.are_whole_nodes l.nodes ≡ spec.are_whole_nodes (drop l.node-index l.nodes)
