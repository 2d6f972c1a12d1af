use Rattle.tree_words.proofs.RootSaid.{copies_stay}
use Rattle.tree_words.proofs.laws.copies_stay.Goals as goal

pub returns : goal.returns
returns c = copies_stay
