use Rattle.hy_term.proofs.Numbering.{list_bridge}
use Rattle.hy_term.proofs.laws.lists_suffice.Goals as goal

pub returns : goal.returns
returns c = list_bridge
