use Rattle.tree_query.proofs.Walking.{walked}
use Rattle.tree_query.proofs.laws.tables_are_walked.Goals as goal

pub returns : goal.returns
returns c = walked
