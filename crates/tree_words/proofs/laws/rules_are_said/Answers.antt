use Rattle.tree_words.proofs.RuleSaying.{rules_are_said}
use Rattle.tree_words.proofs.laws.rules_are_said.Goals as goal

pub returns : goal.returns
returns c = rules_are_said
