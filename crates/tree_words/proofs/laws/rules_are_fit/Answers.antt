use Rattle.tree_words.proofs.Fitting.{rules_are_fit}
use Rattle.tree_words.proofs.laws.rules_are_fit.Goals as goal

pub returns : goal.returns
returns c = rules_are_fit
