-- The law is the lemma, since runs leave what may not be changed.
use Rattle.tree_words.proofs.Composing.{composed_members, leave}
use Rattle.tree_words.proofs.laws.composed_are_members.Goals as goal

pub returns : goal.returns
returns c = λ flat entry is_node is_open blocked free_values height piece consts viewer own_ok free_ok call_ok root own chosen call_of view parts.
    composed_members flat entry is_node is_open blocked free_values height piece consts viewer own_ok free_ok call_ok root own chosen call_of view parts (leave c.runs_keep.ensures flat consts)
