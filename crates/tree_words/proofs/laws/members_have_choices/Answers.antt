-- The law is the lemma.
use Rattle.tree_words.proofs.Complete.{choices}
use Rattle.tree_words.proofs.laws.members_have_choices.Goals as goal

pub returns : goal.returns
returns c = choices
