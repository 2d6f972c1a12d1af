use Rattle.call_tree.proofs.Ways.{sites}
use Rattle.call_tree.proofs.laws.sites_extend_ways.Goals as goal

pub returns : goal.returns
returns c = sites
