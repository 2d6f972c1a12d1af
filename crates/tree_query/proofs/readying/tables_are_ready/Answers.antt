use Rattle.tree_query.proofs.Ready.{tables_ready}
use Rattle.tree_query.proofs.readying.tables_are_ready.Goals as goal

pub returns : goal.returns
returns c = tables_ready c.tables_are_walked.ensures c.openings_are_bases.ensures c.templates_have_sites.ensures c.templates_are_shaped.ensures c.roles_are_told.ensures
