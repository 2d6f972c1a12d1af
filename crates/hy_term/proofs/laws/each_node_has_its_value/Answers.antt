use Rattle.hy_term.proofs.Growing.{node_values}
use Rattle.hy_term.proofs.laws.each_node_has_its_value.Goals as goal

pub returns : goal.returns
returns c = node_values
