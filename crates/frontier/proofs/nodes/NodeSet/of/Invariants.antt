use Rattle.std.proofs.Common.{◌≡◌, List, ℕ, take}
use Rattle.call_tree.specs.Trees.{has_path}
use Rattle.frontier.proofs.nodes.NodeSet.of.Given as goal

abbrev pub invariant-loop-node : goal.invariant-loop-node
invariant-loop-node l = (p : List ℕ) → has_path l.set p ≡ has_path (take l.node-index l.nodes) p
