use Rattle.std.proofs.Common.{◌∙◌}
use Rattle.tree_query.proofs.Numbers.{finds}
use Rattle.tree_query.proofs.numbering.PathNumbers.find.Goals as goal

pub returns : goal.returns
returns c = c.get_index_of.ensures.index ∙ finds c.args.path.now c.self.inside.paths.keys c.args.self.now c.self.view_is
