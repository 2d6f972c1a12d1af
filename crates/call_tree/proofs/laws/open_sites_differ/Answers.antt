use Rattle.call_tree.proofs.Simple.{opens}
use Rattle.call_tree.proofs.laws.open_sites_differ.Goals as goal

pub returns : goal.returns
returns c = opens
