use Rattle.tree_words.proofs.RootSaid.{are_reached}
use Rattle.tree_words.proofs.laws.reaches_are_reached.Goals as goal

pub returns : goal.returns
returns c = are_reached
