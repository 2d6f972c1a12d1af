-- Three rows of variables behind the literal.
use Rattle.std.proofs.Common.{◌∙◌}
use Rattle.tree_query.proofs.Bases.{opening_is, opening_has, opening_values}
use Rattle.tree_query.proofs.Evaluating.{formula_sorted}
use Rattle.tree_query.proofs.opening.base_terms.Goals as goal

pub returns-clause-is : goal.returns-clause-is
returns-clause-is c =
    opening_is c.args.flat.now c.args.entry _ c.in_ok-terms.terms.nodes c.push_variables.new.terms.nodes c.push_variables-2.new.terms.nodes c.consts.result.now c.globals.result.now c.ins_at.result.now
    c.consts.ensures.value c.globals.ensures c.ins_at.ensures c.in_ok-terms.ensures.nodes c.in_ok-consts.ensures.nodes c.in_ok-globals.ensures.nodes c.in_ok-args.ensures.nodes
    (c.in_ok-args.ensures.root ∙ c.in_ok-globals.ensures.root ∙ c.in_ok-consts.ensures.root ∙ c.in_ok-terms.ensures.root) c.in_ok-consts.ensures.numbers c.in_ok-globals.ensures.numbers c.in_ok-args.ensures.numbers

pub returns-clause-terms : goal.returns-clause-terms
returns-clause-terms c =
    let sorted = formula_sorted c.push_variables-3.new.terms c.nodes-nodes.ensures.kept in
    opening_has c.args.flat.now c.args.entry _ sorted.0 (returns-clause-is c) sorted.1 c.in_ok-args.ensures.low

pub returns-clause-values : goal.returns-clause-values
returns-clause-values c = opening_values c.args.flat.now c.args.entry _ (returns-clause-is c)
