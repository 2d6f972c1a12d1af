use Rattle.call_tree.proofs.Simple.{undecided}
use Rattle.call_tree.proofs.laws.undecided_nodes_are_unnamed.Goals as goal

pub returns : goal.returns
returns c = undecided
