use Rattle.tree_query.proofs.Basing.{based}
use Rattle.tree_query.proofs.laws.openings_are_bases.Goals as goal

pub returns : goal.returns
returns c = based
