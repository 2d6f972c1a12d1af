use Rattle.call_tree.proofs.Ways.{nodes}
use Rattle.call_tree.proofs.laws.nodes_are_within_caps.Goals as goal

pub returns : goal.returns
returns c = nodes
