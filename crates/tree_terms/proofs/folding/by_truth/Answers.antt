use Rattle.std.proofs.Common.{true, false}
use Rattle.tree_terms.proofs.Truths.{low_is, low_on, truth_known, truth_turned, truths}
use Rattle.tree_terms.proofs.folding.by_truth.Goals as goal

pub returns-then-high : goal.returns-then-high
returns-then-high c =
    truth_known c.each_value_has_its_sort.ensures c.args.terms.now.nodes c.args.node c.args.child
    (truths c.args.terms.now.nodes c.args.node c.args.child c.args.low c.args.high false true (low_is c.args.low c.args.high c.if-low-high.false c.if-high.true) c.if-high.true c.requires)

pub returns-else-high : goal.returns-else-high
returns-else-high c =
    truth_turned c.each_value_has_its_sort.ensures c.args.terms.now.nodes c.args.node c.args.child
    (truths c.args.terms.now.nodes c.args.node c.args.child c.args.low c.args.high true false (low_on c.args.low c.args.high c.if-low-high.false c.if-high.false) c.if-high.false c.requires)
