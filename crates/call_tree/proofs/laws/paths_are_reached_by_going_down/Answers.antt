use Rattle.call_tree.proofs.Descending.{descent}
use Rattle.call_tree.proofs.laws.paths_are_reached_by_going_down.Goals as goal

pub returns : goal.returns
returns c = descent
