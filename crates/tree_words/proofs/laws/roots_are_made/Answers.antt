use Rattle.tree_words.proofs.RootMade.{roots_are_made}
use Rattle.tree_words.proofs.laws.roots_are_made.Goals as goal

pub returns : goal.returns
returns c = roots_are_made
