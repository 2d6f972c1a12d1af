use Rattle.gate_net.proofs.Ties.{and_ties, three_more}
use Rattle.gate_net.proofs.encoding.tie_and.Goals as goal

pub returns-clause-count : goal.returns-clause-count
returns-clause-count c = three_more _ _ _ _ _ _ _ c.in_ok-add_two.ensures.clauses c.in_ok-add_two-2.ensures.clauses c.in_ok-add_three.ensures.clauses

pub returns-clause-ties : goal.returns-clause-ties
returns-clause-ties c =
    and_ties c.args.to c.args.a c.args.b _ _ _ _ _ _
    c.positive-on.ensures c.negative-off.ensures c.positive-a_on.ensures c.negative-a_off.ensures c.positive-b_on.ensures c.negative-b_off.ensures
    _ _ _ _ c.in_ok-add_two.ensures.clauses c.in_ok-add_two-2.ensures.clauses c.in_ok-add_three.ensures.clauses
