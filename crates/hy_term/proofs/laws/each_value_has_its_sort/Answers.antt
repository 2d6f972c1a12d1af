use Rattle.hy_term.proofs.Typing.{value_has_sort}
use Rattle.hy_term.proofs.laws.each_value_has_its_sort.Goals as goal

pub returns : goal.returns
returns c = value_has_sort c.values_keep_sorts.ensures
