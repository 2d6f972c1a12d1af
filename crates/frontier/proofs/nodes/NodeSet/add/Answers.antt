-- The set has one path more.
use Rattle.frontier.proofs.Paths.{key_added}
use Rattle.frontier.proofs.nodes.NodeSet.add.Goals as goal

pub returns : goal.returns
returns c = λ p.
    key_added c.in_ok-key.key c.self.inside.paths.keys c.insert.new.self.keys c.args.self.now c.args.path.now ((c.in_ok-key.ensures {u = tt}).items) c.self.view_is ((c.in_ok-insert.ensures {u = tt}).keys) p
