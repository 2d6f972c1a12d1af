use Rattle.tree_query.proofs.Tables.{without_last}
use Rattle.tree_query.proofs.linking.parent.Goals as goal

pub returns-else-is_empty : goal.returns-else-is_empty
returns-else-is_empty c = without_last c.args.path.now
