use Rattle.tree_words.proofs.ReachLater.{reaches_stay}
use Rattle.tree_words.proofs.laws.reaches_stay.Goals as goal

pub returns : goal.returns
returns c = reaches_stay
