use Rattle.tree_words.proofs.Ordering.{edges_are_true}
use Rattle.tree_words.proofs.laws.edges_are_true.Goals as goal

pub returns : goal.returns
returns c = edges_are_true
