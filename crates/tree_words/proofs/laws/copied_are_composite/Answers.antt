use Rattle.tree_words.proofs.Linking.{composite}
use Rattle.tree_words.proofs.laws.copied_are_composite.Goals as goal

pub returns : goal.returns
returns c = composite
