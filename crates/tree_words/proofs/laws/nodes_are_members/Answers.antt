-- The law is the lemma, with the laws of lists of nodes and of questions.
use Rattle.tree_words.proofs.NodeMembers.{nodes_are_members}
use Rattle.tree_words.proofs.laws.nodes_are_members.Goals as goal

pub returns : goal.returns
returns c = nodes_are_members c.nodes_are_runs.ensures c.made_are_questions.ensures c.members_are_read.ensures
