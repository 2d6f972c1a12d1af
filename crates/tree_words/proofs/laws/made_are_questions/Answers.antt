-- The law is the lemma, since runs leave what may not be changed.
use Rattle.tree_words.proofs.Composing.{leave}
use Rattle.tree_words.proofs.Put.{made_question}
use Rattle.tree_words.proofs.laws.made_are_questions.Goals as goal

pub returns : goal.returns
returns c = λ flat entry is_open blocked free_values height piece q track base f places path reach may callee made tree names.
    made_question c.each_value_has_its_sort.ensures flat entry is_open blocked free_values height piece q track base f places path reach may callee made tree names (leave c.runs_keep.ensures flat)
