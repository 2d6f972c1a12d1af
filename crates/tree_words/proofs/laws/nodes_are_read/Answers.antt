-- The law is the lemma, with the law of lists of nodes.
use Rattle.tree_words.proofs.RunRead.{nodes_are_read}
use Rattle.tree_words.proofs.laws.nodes_are_read.Goals as goal

pub returns : goal.returns
returns c = nodes_are_read c.nodes_are_runs.ensures
