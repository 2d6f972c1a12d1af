use Rattle.gate_net.proofs.Ties.{xor_ties, four_more}
use Rattle.gate_net.proofs.encoding.tie_xor.Goals as goal

pub returns-clause-count : goal.returns-clause-count
returns-clause-count c = four_more _ _ _ _ _ _ _ _ _ c.in_ok-add_three.ensures.clauses c.in_ok-add_three-2.ensures.clauses c.in_ok-add_three-3.ensures.clauses c.in_ok-add_three-4.ensures.clauses

pub returns-clause-ties : goal.returns-clause-ties
returns-clause-ties c =
    xor_ties c.args.to c.args.a c.args.b _ _ _ _ _ _
    c.positive-on.ensures c.negative-off.ensures c.positive-a_on.ensures c.negative-a_off.ensures c.positive-b_on.ensures c.negative-b_off.ensures
    _ _ _ _ _ c.in_ok-add_three.ensures.clauses c.in_ok-add_three-2.ensures.clauses c.in_ok-add_three-3.ensures.clauses c.in_ok-add_three-4.ensures.clauses
