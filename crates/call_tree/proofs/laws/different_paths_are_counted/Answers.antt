use Rattle.call_tree.proofs.Simple.{count}
use Rattle.call_tree.proofs.laws.different_paths_are_counted.Goals as goal

pub returns : goal.returns
returns c = count
