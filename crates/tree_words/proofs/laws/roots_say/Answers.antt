use Rattle.tree_words.proofs.RootSaid.{rooted}
use Rattle.tree_words.proofs.laws.roots_say.Goals as goal

pub returns : goal.returns
returns c = rooted
