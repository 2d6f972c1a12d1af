-- The law is the lemma.
use Rattle.flat_prog.specs.Changes.{MayBe}
use Rattle.tree_words.proofs.Sound.{member}
use Rattle.tree_words.proofs.laws.answers_are_members.Goals as goal

pub returns : goal.returns
returns c = λ flat entry is_node is_open blocked free_values height piece consts call_of view. member flat entry (MayBe flat) is_node is_open blocked free_values height piece consts call_of view
