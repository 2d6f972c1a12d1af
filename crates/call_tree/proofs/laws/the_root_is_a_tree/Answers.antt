use Rattle.call_tree.proofs.Simple.{root}
use Rattle.call_tree.proofs.laws.the_root_is_a_tree.Goals as goal

pub returns : goal.returns
returns c = root
