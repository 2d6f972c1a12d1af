use Rattle.extract_law.proofs.ListsToTrees.{lists_have_trees}
use Rattle.extract_law.proofs.laws.failing_lists_have_trees.Goals as goal

pub returns : goal.returns
returns c = lists_have_trees
