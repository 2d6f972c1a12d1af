use Rattle.hy_val.proofs.Lawful.{has_its_sort}
use Rattle.hy_val.proofs.laws.each_node_has_its_sort.Goals as goal

pub returns : goal.returns
returns c = has_its_sort
