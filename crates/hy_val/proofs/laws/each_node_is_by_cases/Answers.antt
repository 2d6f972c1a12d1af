use Rattle.hy_val.proofs.Lawful.{by_cases}
use Rattle.hy_val.proofs.laws.each_node_is_by_cases.Goals as goal

pub returns : goal.returns
returns c = by_cases
