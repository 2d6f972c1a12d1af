-- The list has one path more.
use Rattle.tree_query.proofs.Numbers.{key_added}
use Rattle.tree_query.proofs.numbering.PathNumbers.add.Goals as goal

pub returns : goal.returns
returns c =
    key_added c.in_ok-key.key c.self.inside.paths.keys c.insert.new.self.keys c.args.self.now c.args.path.now c.in_ok-key.ensures.items c.self.view_is c.in_ok-insert.ensures.keys c.requires
