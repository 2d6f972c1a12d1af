-- The law is two lemmas, with the law of copies.
use Rattle.tree_words.proofs.Standing.{sound, complete}
use Rattle.tree_words.proofs.laws.questions_stand.Goals as goal

pub returns : goal.returns
returns c = λ flat entry is_node is_open blocked free_values height piece f template put place consts globals args proc callee own_ok free_ok call_ok back q. (
  sound c.variables_alone_matter.ensures flat entry is_node is_open blocked free_values height piece f template put place consts globals args proc callee own_ok free_ok call_ok back q,
  λ m. complete c.variables_alone_matter.ensures flat entry is_node is_open blocked free_values height piece f template put place consts globals args proc callee own_ok free_ok call_ok back q m.0 m.1 m.2,
)
