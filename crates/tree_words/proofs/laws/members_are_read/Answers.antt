-- The law is two lemmas, with the laws of terms.
use Rattle.tree_words.proofs.Standing.{read_off, member_read}
use Rattle.tree_words.proofs.laws.members_are_read.Goals as goal

pub returns : goal.returns
returns c = λ flat entry is_node is_open blocked free_values height piece f template put place consts globals args proc callee own_ok free_ok call_ok back q. (
  read_off c.variables_alone_matter.ensures flat entry is_node is_open blocked free_values height piece f template put place consts globals args proc callee own_ok free_ok call_ok back q,
  member_read c.variables_alone_matter.ensures flat entry is_node is_open blocked free_values height piece f template put place consts globals args proc callee own_ok free_ok call_ok back q,
)
