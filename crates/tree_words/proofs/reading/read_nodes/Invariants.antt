use Rattle.std.proofs.Common.{◌≡◌, length}
use Rattle.tree_words.specs.Reading.{nodes_to, node_at, reached, slots_to}
use Rattle.tree_words.proofs.reading.read_nodes.Given as goal

abbrev pub invariant-loop-node : goal.invariant-loop-node
invariant-loop-node l = l.nodes.items ≡ nodes_to (reached l.reach l.values) (node_at l.procs l.changes (slots_to (reached l.reach l.values) (length l.q.tree)) l.q l.places l.values) l.node
