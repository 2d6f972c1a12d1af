-- The constants differ always, or where the operator says so.
use Rattle.std.proofs.Common.{sym, ◌∙◌}
use Rattle.tree_terms.specs.Standing.{all_at}
use Rattle.tree_terms.proofs.Growth.{formula_sorts}
use Rattle.tree_query.specs.Allowing.{differ}
use Rattle.tree_query.proofs.Conjoining.{bit_later, bool_stays}
use Rattle.tree_query.proofs.Differing.{apart_bit, with_bit}
use Rattle.tree_query.proofs.allowing.with_difference.Goals as goal

pub returns-then-not-same_sort : goal.returns-then-not-same_sort
returns-then-not-same_sort c =
    apart_bit c.each_value_has_its_sort.ensures c.args.terms.now.nodes c.args.consts.now c.args.sorts.now c.args.one c.args.other c.args.all c.sort_of.result c.sort_of-2.result
    (formula_sorts c.args.terms.now c.nodes-nodes.ensures.kept) c.requires.all c.requires.consts c.requires.one c.requires.other c.sort_of.ensures c.sort_of-2.ensures (sym c.same_sort.ensures ∙ c.if-not-same_sort.true)

pub both-requires-clause-left : goal.both-requires-clause-left
both-requires-clause-left c =
    bool_stays c.args.terms.now.nodes c.difference.new.terms.nodes c.args.all
    (bit_later c.args.terms.now.nodes c.difference.new.terms.nodes (λ a. differ (all_at a c.args.terms.now.nodes c.args.consts.now) c.args.one c.args.other) c.in_ok-differ.differ c.in_ok-differ.ensures) c.requires.all

pub returns : goal.returns
returns c =
    with_bit c.args.terms.now.nodes c.difference.new.terms.nodes c.both.new.terms.nodes (λ a. differ (all_at a c.args.terms.now.nodes c.args.consts.now) c.args.one c.args.other) c.args.all c.in_ok-differ.differ
    c.in_ok-node.node c.requires.all c.in_ok-differ.ensures c.in_ok-node.ensures
