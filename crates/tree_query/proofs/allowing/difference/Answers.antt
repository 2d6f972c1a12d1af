use Rattle.tree_query.proofs.Differing.{difference_fits, difference_bit}
use Rattle.tree_query.proofs.allowing.difference.Goals as goal

pub add-requires : goal.add-requires
add-requires c =
    difference_fits c.args.terms.now.nodes c.args.consts.now c.args.sorts.now c.args.one c.args.other c.term_of.result c.term_of-2.result c.requires.consts c.requires.one c.requires.same c.term_of.ensures c.term_of-2.ensures

pub returns : goal.returns
returns c =
    difference_bit c.new_value.ensures c.each_value_has_its_sort.ensures c.args.terms.now.nodes c.add.new.self.nodes c.args.consts.now c.args.sorts.now c.args.one c.args.other c.term_of.result c.term_of-2.result c.in_ok-node.node
    c.requires.consts c.requires.one c.requires.same c.term_of.ensures c.term_of-2.ensures c.in_ok-node.ensures.added c.in_ok-node.ensures.number
