use Rattle.tree_words.proofs.Ordering.{runs_are_in_order}
use Rattle.tree_words.proofs.laws.runs_are_in_order.Goals as goal

pub returns : goal.returns
returns c = runs_are_in_order
