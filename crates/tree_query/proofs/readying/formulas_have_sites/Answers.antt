use Rattle.tree_query.proofs.Formed.{have_sites}
use Rattle.tree_query.proofs.readying.formulas_have_sites.Goals as goal

pub returns : goal.returns
returns c = have_sites c.templates_have_sites.ensures
