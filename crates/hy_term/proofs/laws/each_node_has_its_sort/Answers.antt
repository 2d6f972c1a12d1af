use Rattle.hy_term.proofs.Placing.{node_has_sort}
use Rattle.hy_term.proofs.laws.each_node_has_its_sort.Goals as goal

pub returns : goal.returns
returns c = node_has_sort
