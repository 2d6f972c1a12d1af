use Rattle.call_tree.proofs.Simple.{decision}
use Rattle.call_tree.proofs.laws.decisions_are_kept_one_by_one.Goals as goal

pub returns : goal.returns
returns c = decision
