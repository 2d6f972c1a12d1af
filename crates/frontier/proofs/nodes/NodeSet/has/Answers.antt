-- The set finds its paths.
use Rattle.std.proofs.Common.{◌∙◌}
use Rattle.frontier.proofs.Paths.{finds}
use Rattle.frontier.proofs.nodes.NodeSet.has.Goals as goal

pub returns : goal.returns
returns c = c.contains.ensures ∙ finds c.args.path.now c.self.inside.paths.keys c.args.self.now c.self.view_is
