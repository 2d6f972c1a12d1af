use Rattle.tree_query.proofs.Conjoining.{both_bit}
use Rattle.tree_query.proofs.allowing.both.Goals as goal

pub returns : goal.returns
returns c =
    both_bit c.new_value.ensures c.each_value_has_its_sort.ensures c.args.terms.now.nodes c.add.new.self.nodes c.args.left c.args.right c.in_ok-node.node c.requires.left c.requires.right c.in_ok-node.ensures.added
    c.in_ok-node.ensures.number
