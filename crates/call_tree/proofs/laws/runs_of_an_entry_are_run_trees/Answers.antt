use Rattle.call_tree.proofs.Descending.{of_entry}
use Rattle.call_tree.proofs.laws.runs_of_an_entry_are_run_trees.Goals as goal

pub returns : goal.returns
returns c = of_entry
