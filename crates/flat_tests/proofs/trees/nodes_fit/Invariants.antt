-- What is left to look at says whether all is so.
use Rattle.std.proofs.Common.{◌≡◌, drop}
use Rattle.flat_prog.specs.Nodes as spec
use Rattle.flat_tests.proofs.trees.nodes_fit.Given as goal

abbrev pub invariant-loop-number : goal.invariant-loop-number
invariant-loop-number l = spec.nodes_fit 0 l.high l.nodes ≡ spec.nodes_fit l.number l.high (drop l.number l.nodes)
